-- Which pieces a bank keeps, and what remains if it drops one.
use Rattle.std.specs.Prelude.{◌≡◌, ℕ, ◌&&◌, ◌||◌, not, Bool, if◌then◌else◌, is_some, sum_by, count_by, Option, Some}
use Rattle.std.specs.Prelude.{None, map}
use Rattle.std.specs.FinMap as map
use Rattle.tag.specs.declared.tag.Tag.{Tag}
use Rattle.piece.specs.declared.piece.Piece.{Piece}
use Rattle.bank.specs.declared.row.Arrival.{Arrival}
use Rattle.bank.specs.declared.row.Row.{Row}
use Rattle.bank.specs.Bank.{Bank, with_rows, piece_of, piece_of_row}
use Rattle.bank.specs.Bytes.{entry_bytes}
use Rattle.bank.specs.Knowledge.{since, is_finalized, arrived_at, exceeds, finals_above, is_dropped}

-- an arrival whose piece is dropped: the step of the arrival remains
abbrev pub emptied_arrival : Option Arrival → Option Arrival
emptied_arrival None = None
emptied_arrival (Some a) = Some (record { piece = None; step = a.step })

-- a row whose piece is dropped: the label and the step of the arrival remain
abbrev pub emptied_row : Row → Row
emptied_row r = record { label = r.label; arrival = emptied_arrival r.arrival }

-- an entry, which is a tag with its row, whose piece is dropped
abbrev pub emptied_entry : Tag × Row → Tag × Row
emptied_entry e = (e.0, emptied_row e.1)

-- the row of a tag, without its piece if the bank is to drop the pieces of the tag
abbrev pub kept_row : Bank → Tag → Row → Row
kept_row b tag r = if is_dropped b tag then emptied_row r else r

-- an entry, which is a tag with its row, without its piece if the bank is to drop the pieces of the tag
abbrev pub kept_entry : Bank → Tag × Row → Tag × Row
kept_entry b e = (e.0, kept_row b e.0 e.1)

-- the bank once it has dropped every piece that it is not to keep
abbrev pub collected : Bank → Bank
collected b = with_rows b (map.from_sorted (map (kept_entry b) (map.entries b.rows)))

-- for each tag the bank has a piece exactly if one arrived and the bank is not to drop it
abbrev pub IsCollected : Bank → Type 0
IsCollected b = (tag : Tag) → is_some (piece_of b tag) ≡ (is_some (arrived_at b tag) && not (is_dropped b tag))

-- the bank keeps every piece: it has no delta, and it is not retired
abbrev pub KeepsAll : Bank → Type 0
KeepsAll b = (b.delta ≡ None) × (b.retired ≡ None)

-- whether the bank is to drop the pieces of the tag as soon as the tag is finalized
abbrev pub is_outside : Bank → Tag → Bool
is_outside b tag = is_some b.retired || exceeds b.delta (finals_above b tag)

-- the piece of a tag that the bank still keeps once the tag is finalized, if there is one
abbrev pub fetched_piece : Bank → Tag → Option Piece
fetched_piece b tag = if is_outside b tag then None else piece_of b tag

-- the number of bytes of all pieces that the bank is to drop
abbrev pub dropped_bytes : Bank → ℕ
dropped_bytes b = sum_by (λ (e : Tag × Row). if is_dropped b e.0 then entry_bytes e else 0) (map.entries b.rows)

-- how many finalized tags the bank keeps a piece for
abbrev pub final_pieces : Bank → ℕ
final_pieces b =
    count_by (λ (e : Tag × Row). is_finalized e.1.label && is_some (piece_of_row (Some e.1))) (map.entries b.rows)

-- the bank after it is retired at step `now`, which drops all its pieces
abbrev pub retired_bank : Bank → ℕ → Bank
retired_bank b now = collected
    (record { rows = b.rows; pointer = b.pointer; delta = b.delta; retired = since b.retired now })
