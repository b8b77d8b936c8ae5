-- The pieces from which a call decodes the value that it fetched.
use Rattle.std.specs.Prelude.{ℕ, ◌==◌, if◌then◌else◌, List, [], ◌∷◌, ◌++◌, take, Option, None, Some, option_to_list}
use Rattle.piece.specs.declared.piece.Piece.{Piece}
use Rattle.mail.specs.declared.phase.Taken.{Taken}
use Rattle.record.specs.Fragments.{answer_piece}

-- the piece, if there is one and its point is that of this member
abbrev pub at_point : (member : ℕ) → Option Piece → Option Piece
at_point member None = None
at_point member (Some piece) = if piece.point == member then Some piece else None

-- the piece that a reply carries, if its point is that of the member that replied
abbrev pub own_piece : Taken → Option Piece
own_piece taken = at_point taken.member (answer_piece taken.reply.answer)

-- the pieces that these replies carry, if their points are those of the members that replied, in the order of the
-- replies
abbrev pub own_pieces : List Taken → List Piece
own_pieces [] = []
own_pieces (taken ∷ replies) = option_to_list (own_piece taken) ++ own_pieces replies

-- the first k of the pieces that these replies carry
abbrev pub first_pieces : (k : ℕ) → List Taken → List Piece
first_pieces k replies = take k (own_pieces replies)
