-- The contracts that docs/trusted.md lists do not depend on this file; other contracts and proofs do.
-- The requests that lead a newly opened bank to a bank, and how many bytes they bring.
use Rattle.std.specs.Prelude.{ℕ, length, if◌then◌else◌, List, [], ◌∷◌, ◌++◌, Option, Some, None}
use Rattle.std.specs.FinMap as map
use Rattle.tag.specs.declared.tag.Tag.{Tag}
use Rattle.tag.specs.Tag.{tag_eq, opening_tag}
use Rattle.piece.specs.declared.piece.Piece.{Piece}
use Rattle.bank.specs.declared.request.Request.{Request}
use Rattle.bank.specs.declared.request.Request.TheVariants as request
use Rattle.bank.specs.declared.row.Arrival.{Arrival}
use Rattle.bank.specs.declared.row.Label.{Label}
use Rattle.bank.specs.declared.row.Label.TheVariants.{PreWritten, Finalized}
use Rattle.bank.specs.declared.row.Row.{Row}
use Rattle.bank.specs.declared.status.Pointer.{Pointer}
use Rattle.bank.specs.declared.status.Pointer.TheVariants.{Unset, Pending, Final}
use Rattle.bank.specs.declared.status.Status.TheVariants as status
use Rattle.bank.specs.Bank.{Bank, empty_piece}
use Rattle.closed_bank.specs.Restore.{requests_to_closed}
use Rattle.local_object.specs.declared.kept_bank.KeptBank.{KeptBank}
use Rattle.local_object.specs.declared.kept_bank.KeptBank.TheVariants as kept

-- the request that raises an unset pointer to this one, if it is not unset
abbrev pub pointer_requests : Pointer → List Request
pointer_requests Unset = []
pointer_requests (Pending since) = request.Spread status.Pending ∷ []
pointer_requests (Final pending since) = request.Spread status.Final ∷ []

-- the request that finalizes a tag, if its label is finalized
abbrev pub label_requests : Tag → Label → List Request
label_requests tag (PreWritten since) = []
label_requests tag (Finalized since) = request.Finalize tag ∷ []

-- the piece, or an empty one in the place of a piece that the bank dropped
abbrev pub piece_or_empty : Option Piece → Piece
piece_or_empty None = empty_piece 0
piece_or_empty (Some piece) = piece

-- the request that brings the piece of a tag, if a piece arrived
abbrev pub arrival_requests : Tag → Option Arrival → List Request
arrival_requests tag None = []
arrival_requests tag (Some arrival) = request.PreWrite tag (piece_or_empty arrival.piece) ∷ []

-- the requests that lead to the row of a tag; the row of the opening tag is there from the beginning
abbrev pub row_requests : Tag → Row → List Request
row_requests tag row =
    if tag_eq tag opening_tag then [] else label_requests tag row.label ++ arrival_requests tag row.arrival

-- the requests that lead to the rows of these tags
abbrev pub rows_requests : List (Tag × Row) → List Request
rows_requests [] = []
rows_requests (entry ∷ entries) = row_requests entry.0 entry.1 ++ rows_requests entries

-- the requests that lead a newly opened bank to this bank
abbrev pub requests_to : Bank → List Request
requests_to bank = pointer_requests bank.pointer ++ rows_requests (map.entries bank.rows)

-- the requests that lead a newly opened bank to what a node keeps of one, or, if that is closed, to a bank that closes
-- to it
abbrev pub requests_for : KeptBank → List Request
requests_for (kept.Open bank) = requests_to bank
requests_for (kept.Closed closed) = requests_to_closed closed

-- the number of bytes of the piece in a request, or 0 where it has none
abbrev pub brought_bytes : Request → ℕ
brought_bytes (request.PreWrite tag piece) = length piece.bytes
brought_bytes _ = 0
