-- The number of bytes of the pieces in a bank, and of those that a request adds.
use Rattle.std.specs.Prelude.{ℕ, length, sum_by, is_some, if◌then◌else◌, Option, Some, None}
use Rattle.std.specs.FinMap as map
use Rattle.tag.specs.declared.tag.Tag.{Tag}
use Rattle.piece.specs.declared.piece.Piece.{Piece}
use Rattle.bank.specs.declared.row.Arrival.{Arrival}
use Rattle.bank.specs.declared.row.Row.{Row}
use Rattle.bank.specs.declared.request.Request.{Request}
use Rattle.bank.specs.declared.request.Request.TheVariants as request
use Rattle.bank.specs.Bank.{Bank}
use Rattle.bank.specs.Knowledge.{arrived_at}

-- the number of bytes of a piece, or 0 if there is none
abbrev pub piece_bytes : Option Piece → ℕ
piece_bytes None = 0
piece_bytes (Some p) = length p.bytes

-- the number of bytes of an arrived piece, or 0 if none arrived or it is no longer kept
abbrev pub arrival_bytes : Option Arrival → ℕ
arrival_bytes None = 0
arrival_bytes (Some a) = piece_bytes a.piece

-- the number of bytes of the piece in a row
abbrev pub row_bytes : Row → ℕ
row_bytes r = arrival_bytes r.arrival

-- the number of bytes of the piece in the row of a tag, or 0 if there is no row
abbrev pub row_piece_bytes : Option Row → ℕ
row_piece_bytes None = 0
row_piece_bytes (Some r) = row_bytes r

-- the number of bytes of the piece in an entry, which is a tag with its row
abbrev pub entry_bytes : Tag × Row → ℕ
entry_bytes e = row_bytes e.1

-- the number of bytes of all pieces in a bank
abbrev pub bank_bytes : Bank → ℕ
bank_bytes b = sum_by entry_bytes (map.entries b.rows)

-- the number of bytes that a request adds: those of its piece, unless one arrived for its tag before
abbrev pub added_bytes : Bank → Request → ℕ
added_bytes b (request.PreWrite tag piece) = if is_some (arrived_at b tag) then 0 else length piece.bytes
added_bytes b q = 0
