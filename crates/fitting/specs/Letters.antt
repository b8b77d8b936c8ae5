-- The contracts that docs/trusted.md lists do not depend on this file; other contracts and proofs do.
-- Which letters between nodes can be written as the frame of a message, if the name of the object is short enough.
use Rattle.std.specs.Prelude.{◌≡◌, ◌≤◌, ◌<◌, ◌^◌, true, length, IfSome, is_some}
use Rattle.std.specs.List.{AllByRecursion}
use Rattle.frames.specs.Frame.{IsShort}
use Rattle.frames.specs.declared.limits.TheConstants.{LONGEST_STRING}
use Rattle.layout.specs.Layout.{IsLawful, Layout}
use Rattle.letter.specs.declared.letter.Letter.{Letter}
use Rattle.letter.specs.declared.start.Start.{Start}
use Rattle.letter.specs.declared.telling.Telling.{Telling}
use Rattle.mail.specs.Message.{message_bytes, names_next}
use Rattle.node_messages.specs.Message.{IsBody, IsPiece, IsTag, has_fitting_role}
use Rattle.piece.specs.declared.piece.Piece.{Piece}

-- a layout is lawful, and its members are numbers of nodes, which are bytes
pub record IsFitLayout (layout : Layout) : Type 0 where
  pub lawful : IsLawful layout
  pub members : AllByRecursion (λ member. member < 2 ^ 8) layout.members

-- the numbers of a piece are within their bits, and its bytes fit into a string of a frame
pub record IsFitPiece (piece : Piece) : Type 0 where
  pub numbers : IsPiece piece
  pub bytes : IsShort piece.bytes

-- the position of a start fits 32 bits, and its layout is fit
pub record IsFitStart (start : Start) : Type 0 where
  pub position : start.position < 2 ^ 32
  pub layout : IsFitLayout start.layout

-- the numbers of the tag in what is told are within their bits, and the told piece is fit, if there is one
pub record IsFitTelling (telling : Telling) : Type 0 where
  pub greatest : IsTag telling.greatest
  pub piece : IfSome telling.piece IsFitPiece

-- a letter is one that a message can carry: its numbers are within their bits, its member is one of its layout, it has
-- the layout of the next position exactly if it says that there is one, the start that it tells is fit, its piece fits
-- into a string of a frame, only a reply tells of its member, and only a request asks for a piece; and what it tells is
-- fit
pub record IsFitLetter (letter : Letter) : Type 0 where
  pub layout : IsFitLayout letter.layout
  pub call : letter.message.call < 2 ^ 64
  pub phase : letter.message.phase < 2 ^ 32
  pub position : letter.message.position < 2 ^ 32
  pub member : letter.message.member < length letter.layout.members
  pub body : IsBody letter.message.body
  pub named : is_some letter.next ≡ names_next letter.message.body
  pub next : IfSome letter.next IsFitLayout
  pub start : IfSome letter.start IsFitStart
  pub short : message_bytes letter.message ≤ LONGEST_STRING
  pub role : has_fitting_role letter ≡ true
  pub told : IfSome letter.told IsFitTelling
