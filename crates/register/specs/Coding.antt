-- The contracts that docs/trusted.md lists do not depend on this file; other contracts and proofs do.
-- Where the pieces of a call go, and those from which it decodes a value.
use Rattle.std.specs.Prelude.{ℕ, suc, zero, nat_eq, Bool, true, false, ◌==◌, ◌&&◌, if◌then◌else◌, List, []}
use Rattle.std.specs.Prelude.{◌∷◌, ◌++◌, length, take, Option, Some, None, option_map}
use Rattle.std.specs.List.{list_any, list_all}
use Rattle.std.specs.Cmp.Lexicographic.{pointwise}
use Rattle.layout.specs.Layout.{Layout}
use Rattle.encoder.specs.Coded.{Coding}
use Rattle.piece.specs.declared.piece.Piece.{Piece}
use Rattle.decoder.specs.Decoded.{Decoding}
use Rattle.bank.specs.declared.kind.Kind.{Kind}
use Rattle.bank.specs.declared.kind.Kind.TheVariants.{PreWrite}
use Rattle.mail.specs.declared.phase.Taken.{Taken}
use Rattle.mail.specs.Phase.{Phase}
use Rattle.record.specs.Records.{Call, Object, layout_at}
use Rattle.record.specs.Legal.{due_of}
use Rattle.record.specs.Fragments.{answer_piece}
use Rattle.record.specs.declared.stage.Want.{Want}
use Rattle.record.specs.declared.stage.Want.TheVariants as want
use Rattle.record.specs.Wants.{current_phase, want_of}

-- whether two lists have the same bytes
abbrev pub bytes_eq : List ℕ → List ℕ → Bool
bytes_eq a b = pointwise nat_eq a b

-- whether a phase of this kind sends pieces
abbrev pub is_pre_write : Kind → Bool
is_pre_write (PreWrite tag) = true
is_pre_write _ = false

-- the position of the phase, if there is a phase and it sends pieces
abbrev pub sending_position : Option Phase → Option ℕ
sending_position None = None
sending_position (Some phase) = if is_pre_write phase.kind then Some phase.position else None

-- where the pieces of a call that wants this go: to the position of the pre-write that is due, or that lacks a quorum
abbrev pub pieces_position : Want → Option (Kind × ℕ) → Option Phase → Option ℕ
pieces_position (want.Supply k n) next phase = option_map (λ n. n.1) next
pieces_position want.Replies next phase = sending_position phase
pieces_position _ next phase = None

-- the position whose members are to get the pieces of the call at this index, if it sends any
abbrev pub pieces_due : Object → (index : ℕ) → Call → Option ℕ
pieces_due object index call =
    pieces_position (want_of object index call) (due_of object index call) (current_phase call.phases)

-- whether `coded` is this value, encoded for this layout
abbrev pub is_coded_for : Layout → (value : List ℕ) → Coding → Bool
is_coded_for layout value coded = bytes_eq coded.value value &&
    (coded.k == layout.k && coded.n == length layout.members)

-- whether two pieces are the same
abbrev pub same_piece : Piece → Piece → Bool
same_piece a b = a.point == b.point && (a.len == b.len && bytes_eq a.bytes b.bytes)

-- whether there is a piece, and it is the same as the given one
abbrev pub has_same_piece : Piece → Option Piece → Bool
has_same_piece piece None = false
has_same_piece piece (Some other) = same_piece piece other

-- whether one of the recorded replies carries this piece
abbrev pub is_recorded : List Taken → Piece → Bool
is_recorded replies piece = list_any (λ t. has_same_piece piece (answer_piece t.reply.answer)) replies

-- whether the value was decoded from k pieces, each carried by one of these replies
abbrev pub is_decoded_from : (k : ℕ) → List Taken → Decoding → Bool
is_decoded_from k replies decoded = decoded.k == k && list_all (is_recorded replies) decoded.pieces

-- the piece that the member's reply carries, if there is one
abbrev pub piece_by : List Taken → (member : ℕ) → Option Piece
piece_by [] member = None
piece_by (t ∷ replies) member = if t.member == member then answer_piece t.reply.answer else piece_by replies member

-- the piece as a list of one, or the empty list if there is none
abbrev pub piece_list : Option Piece → List Piece
piece_list None = []
piece_list (Some piece) = piece ∷ []

-- the pieces that the replies of the first `count` members carry, by rising member, which is the point of the piece
abbrev pub pieces_below : List Taken → (count : ℕ) → List Piece
pieces_below replies zero = []
pieces_below replies (suc member) = pieces_below replies member ++ piece_list (piece_by replies member)

-- of the pieces that the replies of a layout's members carry, the k with the least points
abbrev pub least_pieces : Layout → List Taken → List Piece
least_pieces layout replies = take layout.k (pieces_below replies (length layout.members))

-- the pieces from which the value of a phase is decoded, if there is a phase
abbrev pub least_of : Object → Option Phase → List Piece
least_of object None = []
least_of object (Some phase) = least_pieces (layout_at object phase.position) phase.replies
