-- A bank as contracts see it, and what each request changes in it before any piece is dropped.
use Rattle.std.specs.Prelude.{ℕ, Bool, [], Option, Some, None, is_some, refl}
use Rattle.std.specs.FinMap as map
use Rattle.std.specs.Coded.{Coded, code_by, coded×, coded_ℕ, coded_option}
use Rattle.tag.specs.declared.tag.Tag.{Tag}
use Rattle.tag.specs.Tag.{tag_cmp, opening_tag}
use Rattle.piece.specs.declared.piece.Piece.{Piece}
use Rattle.bank.specs.declared.row.Label.{Label}
use Rattle.bank.specs.declared.row.Label.TheVariants.{PreWritten, Finalized}
use Rattle.bank.specs.declared.row.Arrival.{Arrival}
use Rattle.bank.specs.declared.row.Row.{Row}
use Rattle.bank.specs.declared.status.Pointer.{Pointer}
use Rattle.bank.specs.declared.status.Pointer.TheVariants.{Unset}

-- a bank: rows by tag, pointer, how many finalized versions it keeps besides the newest (None: all), and when it
-- retired
pub record Bank : Type 0 where
  pub rows : map.FinMap tag_cmp Row
  pub pointer : Pointer
  pub delta : Option ℕ
  pub retired : Option ℕ

-- how a bank is encoded: as the tuple of its parts
abbrev pub bank_code : Coded Tag → Coded Row → Coded Pointer → Coded Bank
bank_code tag row pointer =
    code_by ((map.FinMap tag_cmp Row × Pointer) × (Option ℕ × Option ℕ))
    (coded× (coded× (map.code tag row) pointer) (coded× (coded_option coded_ℕ) (coded_option coded_ℕ)))
    (λ b. ((b.rows, b.pointer), (b.delta, b.retired)))
    (λ p. record { rows = p.0.0; pointer = p.0.1; delta = p.1.0; retired = p.1.1 }) (λ _. refl)

-- the fragment of the empty value at a point
abbrev pub empty_piece : ℕ → Piece
empty_piece point = record { point = point; len = 0; bytes = [] }

-- the row of the opening tag in a new bank: finalized at step `now`, with the fragment of the empty value
abbrev pub opening_row : ℕ → ℕ → Row
opening_row point now =
    record { label = Finalized now; arrival = Some (record { piece = Some (empty_piece point); step = now }) }

-- a bank that is opened at step `now`, for the member with this point
abbrev pub opened_bank : ℕ → Option ℕ → ℕ → Bank
opened_bank point delta now = record {
  rows = map.insert map.empty opening_tag (opening_row point now);
  pointer = Unset;
  delta = delta;
  retired = None;
}

-- the label of a tag after a request to finalize the tag at step `now`
abbrev pub finalized_label : Label → ℕ → Label
finalized_label (PreWritten since) now = Finalized now
finalized_label (Finalized since) now = Finalized since

-- the row of a known tag after a request to finalize the tag at step `now`
abbrev pub finalized_row : Row → ℕ → Row
finalized_row r now = record { label = finalized_label r.label now; arrival = r.arrival }

-- the arrival of an earlier piece, if there is one, and otherwise the arrival of piece p at step `now`
abbrev pub filled_arrival : Option Arrival → Piece → ℕ → Option Arrival
filled_arrival None p now = Some (record { piece = Some p; step = now })
filled_arrival (Some a) p now = Some a

-- the row of a known tag after a request to pre-write the tag with piece p at step `now`
abbrev pub filled_row : Row → Piece → ℕ → Row
filled_row r p now = record { label = r.label; arrival = filled_arrival r.arrival p now }

-- the row of a tag, known or new, after a request to pre-write the tag with piece p at step `now`
abbrev pub row_after_pre_write : Option Row → Piece → ℕ → Row
row_after_pre_write None p now =
    record { label = PreWritten now; arrival = Some (record { piece = Some p; step = now }) }
row_after_pre_write (Some r) p now = filled_row r p now

-- the row of a tag, known or new, after a request to finalize the tag at step `now`
abbrev pub row_after_finalize : Option Row → ℕ → Row
row_after_finalize None now = record { label = Finalized now; arrival = None }
row_after_finalize (Some r) now = finalized_row r now

-- the bank with its rows replaced
abbrev pub with_rows : Bank → map.FinMap tag_cmp Row → Bank
with_rows b rows = record { rows = rows; pointer = b.pointer; delta = b.delta; retired = b.retired }

-- the bank with its pointer replaced
abbrev pub with_pointer : Bank → Pointer → Bank
with_pointer b pointer = record { rows = b.rows; pointer = pointer; delta = b.delta; retired = b.retired }

-- the bank after a request to pre-write a tag with a piece, before any piece is dropped
abbrev pub pre_written : Bank → Tag → Piece → ℕ → Bank
pre_written b tag p now = with_rows b (map.insert b.rows tag (row_after_pre_write (map.get b.rows tag) p now))

-- the bank after a request to finalize a tag, before any piece is dropped
abbrev pub finalized : Bank → Tag → ℕ → Bank
finalized b tag now = with_rows b (map.insert b.rows tag (row_after_finalize (map.get b.rows tag) now))

-- the piece of an arrival, if one arrived and it is still kept
abbrev pub piece_that_came : Option Arrival → Option Piece
piece_that_came None = None
piece_that_came (Some a) = a.piece

-- the piece in the row of a tag, if one arrived and it is still kept
abbrev pub piece_of_row : Option Row → Option Piece
piece_of_row None = None
piece_of_row (Some r) = piece_that_came r.arrival

-- the piece that the bank keeps for a tag, if there is one
abbrev pub piece_of : Bank → Tag → Option Piece
piece_of b tag = piece_of_row (map.get b.rows tag)

-- whether a bank has a row for a tag
abbrev pub knows : Bank → Tag → Bool
knows b tag = is_some (map.get b.rows tag)
