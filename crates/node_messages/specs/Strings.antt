-- The strings of a message's frame.
use Rattle.std.specs.Prelude.{[], ◌∷◌, ◌++◌, Option, Some, None}
use Rattle.piece.specs.declared.piece.Piece.{Piece}
use Rattle.bank.specs.declared.reply.Answer.{Answer}
use Rattle.bank.specs.declared.reply.Answer.TheVariants as answer
use Rattle.mail.specs.declared.message.Body.{Body}
use Rattle.mail.specs.declared.message.Body.TheVariants as body
use Rattle.letter.specs.declared.telling.Telling.{Telling}
use Rattle.node_strings.specs.Strings.{Strings}
use Rattle.node_messages.specs.declared.message.NodeMessage.{NodeMessage}
use Rattle.node_messages.specs.Head.{head_of, request_piece}

-- the piece of an answer, if it has one
abbrev pub answer_piece : Answer → Option Piece
answer_piece (answer.Piece piece) = piece
answer_piece a = None

-- the piece of a body, if it has one
abbrev pub body_piece : Body → Option Piece
body_piece (body.Request q) = request_piece q
body_piece (body.Reply k r) = answer_piece r.answer

-- the piece that is told, if one is told
abbrev pub told_piece : Option Telling → Option Piece
told_piece None = None
told_piece (Some telling) = telling.piece

-- the bytes of a piece, if there is one
abbrev pub piece_strings : Option Piece → Strings
piece_strings None = []
piece_strings (Some piece) = piece.bytes ∷ []

-- the strings of a message: its head, the name, the bytes of its piece if it has one, and those of the piece that is
-- told if one is told
abbrev pub strings_of : NodeMessage → Strings
strings_of m =
    head_of m ∷ m.named.name ∷ piece_strings (body_piece m.named.letter.message.body)
    ++ piece_strings (told_piece m.named.letter.told)
