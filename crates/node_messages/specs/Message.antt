-- Which values are messages between nodes.
use Rattle.std.specs.Prelude.{◌≡◌, ◌<◌, ◌≤◌, ◌^◌, length, IfSome, is_some, Bool, true, false, not, Option}
use Rattle.tag.specs.declared.limits.TheConstants.{LONGEST_NAME}
use Rattle.tag.specs.declared.tag.Tag.{Tag}
use Rattle.piece.specs.declared.piece.Piece.{Piece}
use Rattle.layout.specs.Layout.{IsLawful}
use Rattle.bank.specs.declared.kind.Kind.{Kind}
use Rattle.bank.specs.declared.kind.Kind.TheVariants as kind
use Rattle.bank.specs.declared.reply.Answer.{Answer}
use Rattle.bank.specs.declared.reply.Answer.TheVariants as answer
use Rattle.bank.specs.declared.request.Request.{Request}
use Rattle.bank.specs.declared.request.Request.TheVariants as request
use Rattle.mail.specs.declared.message.Body.{Body}
use Rattle.mail.specs.declared.message.Body.TheVariants as body
use Rattle.mail.specs.Message.{names_next}
use Rattle.letter.specs.declared.letter.Letter.{Letter}
use Rattle.letter.specs.declared.start.Start.{Start}
use Rattle.letter.specs.declared.telling.Telling.{Telling}
use Rattle.node_messages.specs.declared.message.NodeMessage.{NodeMessage}
use Rattle.cluster_file.specs.declared.file.TheConstants.{DIGEST_LENGTH}

-- whether this is an answer to a request of this kind
abbrev pub is_answer_to : Kind → Answer → Bool
is_answer_to kind.Next (answer.Pointer found) = true
is_answer_to (kind.Spread found) answer.Done = true
is_answer_to kind.Query (answer.Greatest tag) = true
is_answer_to (kind.PreWrite tag) answer.Done = true
is_answer_to (kind.Finalize tag) answer.Done = true
is_answer_to (kind.Fetch tag) (answer.Piece piece) = true
is_answer_to k a = false

-- whether the body of a message is a request, or a reply with an answer to a request of its kind
abbrev pub is_fitting : Body → Bool
is_fitting (body.Request q) = true
is_fitting (body.Reply k r) = is_answer_to k r.answer

-- whether a request tells nothing, and a reply does not ask for a piece
abbrev pub fits_role : Body → (asks_piece : Bool) → Option Telling → Bool
fits_role (body.Request q) asks told = not (is_some told)
fits_role (body.Reply k r) asks told = not asks

-- whether a letter is no request that tells something, and no reply that asks for a piece
abbrev pub has_fitting_role : Letter → Bool
has_fitting_role letter = fits_role letter.message.body letter.asks_piece letter.told

-- the numbers of a tag have 64 bits
abbrev pub IsTag : Tag → Type 0
IsTag t = (t.number < 2 ^ 64) × (t.call < 2 ^ 64)

-- the point of a piece has 8 bits, and the length of its value 32
abbrev pub IsPiece : Piece → Type 0
IsPiece p = (p.point < 2 ^ 8) × (p.len < 2 ^ 32)

-- the numbers in a kind are within their bits
abbrev pub IsKind : Kind → Type 0
IsKind kind.Next = Unit {0}
IsKind (kind.Spread found) = Unit {0}
IsKind kind.Query = Unit {0}
IsKind (kind.PreWrite tag) = IsTag tag
IsKind (kind.Finalize tag) = IsTag tag
IsKind (kind.Fetch tag) = IsTag tag

-- the numbers in a request are within their bits
abbrev pub IsRequest : Request → Type 0
IsRequest request.Next = Unit {0}
IsRequest (request.Spread found) = Unit {0}
IsRequest request.Query = Unit {0}
IsRequest (request.PreWrite tag piece) = IsTag tag × IsPiece piece
IsRequest (request.Finalize tag) = IsTag tag
IsRequest (request.Fetch tag) = IsTag tag

-- the numbers in an answer are within their bits
abbrev pub IsAnswer : Answer → Type 0
IsAnswer answer.Done = Unit {0}
IsAnswer (answer.Pointer found) = Unit {0}
IsAnswer (answer.Greatest tag) = IsTag tag
IsAnswer (answer.Piece piece) = IfSome piece IsPiece

-- the numbers in the piece of a request are within their bits, if it has one
abbrev pub HasFittingPiece : Request → Type 0
HasFittingPiece (request.PreWrite tag piece) = IsPiece piece
HasFittingPiece q = Unit {0}

-- the numbers in the body of a message are within their bits
abbrev pub IsWithinBits : Body → Type 0
IsWithinBits (body.Request q) = IsRequest q
IsWithinBits (body.Reply k r) = IsKind k × (r.step < 2 ^ 64) × IsAnswer r.answer

-- the numbers in the body of a message are within their bits, and an answer is one to a request of its kind
abbrev pub IsBody : Body → Type 0
IsBody (body.Request q) = IsRequest q
IsBody (body.Reply k r) = IsKind k × (r.step < 2 ^ 64) × IsAnswer r.answer × (is_answer_to k r.answer ≡ true)

-- the position of a start has 32 bits, and its layout is lawful
abbrev pub IsStart : Start → Type 0
IsStart start = (start.position < 2 ^ 32) × IsLawful start.layout

-- the numbers in what is told are within their bits
abbrev pub IsTelling : Telling → Type 0
IsTelling telling = IsTag telling.greatest × IfSome telling.piece IsPiece

-- what the types of a message's fields guarantee: the digest has its length, the layouts are lawful, and numbers are
-- within their bits
pub record HasTypedFields (m : NodeMessage) : Type 0 where
  pub digest : length m.digest ≡ DIGEST_LENGTH
  pub layout : IsLawful m.named.letter.layout
  pub call : m.named.letter.message.call < 2 ^ 64
  pub phase : m.named.letter.message.phase < 2 ^ 32
  pub position : m.named.letter.message.position < 2 ^ 32
  pub body : IsWithinBits m.named.letter.message.body
  pub next : IfSome m.named.letter.next IsLawful
  pub start : IfSome m.named.letter.start IsStart
  pub told : IfSome m.named.letter.told IsTelling

-- What a message between nodes is: the digest has its length, the name is not too long, the layouts are lawful, the
-- member is one of the layout, there is a next layout exactly if the message says that the pointer is pending or final,
-- an answer belongs to a request of its kind, only replies tell of their member, only requests ask for its piece, and
-- numbers are within their bits.
pub record IsMessage (m : NodeMessage) : Type 0 where
  pub digest : length m.digest ≡ DIGEST_LENGTH
  pub name : length m.named.name ≤ LONGEST_NAME
  pub layout : IsLawful m.named.letter.layout
  pub call : m.named.letter.message.call < 2 ^ 64
  pub phase : m.named.letter.message.phase < 2 ^ 32
  pub position : m.named.letter.message.position < 2 ^ 32
  pub member : m.named.letter.message.member < length m.named.letter.layout.members
  pub body : IsBody m.named.letter.message.body
  pub named : is_some m.named.letter.next ≡ names_next m.named.letter.message.body
  pub next : IfSome m.named.letter.next IsLawful
  pub start : IfSome m.named.letter.start IsStart
  pub role : has_fitting_role m.named.letter ≡ true
  pub told : IfSome m.named.letter.told IsTelling
