-- Which pieces are fragments of the journal's values, and which values are settled. The journal maps tags to values.
use Rattle.std.specs.Prelude.{◌≡◌, ℕ, suc, ◌<◌, ◌≤◌, ◌⊎◌, nat_eq, true}
use Rattle.std.specs.Prelude.{List, [], length, Option, Some, None, IsSome, slice_get}
use Rattle.std.specs.List.{AllByRecursion, IsDistinct}
use Rattle.tag.specs.declared.tag.Tag.{Tag}
use Rattle.tag.specs.declared.limits.TheConstants.{LONGEST_VALUE, MOST_MEMBERS}
use Rattle.layout.specs.Layout.{Layout}
use Rattle.piece.specs.declared.piece.Piece.{Piece}
use Rattle.bank.specs.declared.kind.Kind.{Kind}
use Rattle.bank.specs.declared.kind.Kind.TheVariants.{PreWrite, Finalize, Fetch}
use Rattle.bank.specs.declared.reply.Answer.{Answer}
use Rattle.bank.specs.declared.reply.Answer.TheVariants as answer
use Rattle.bank.specs.declared.request.Request.{Request}
use Rattle.bank.specs.declared.request.Request.TheVariants as request
use Rattle.bank.specs.Bank.{knows, piece_of}
use Rattle.bank.specs.Knowledge.{is_dropped_at}
use Rattle.mail.specs.declared.message.Body.{Body}
use Rattle.mail.specs.declared.message.Body.TheVariants as body
use Rattle.mail.specs.declared.phase.Taken.{Taken}
use Rattle.mail.specs.Phase.{Phase, lacks_pieces}
use Rattle.record.specs.declared.call.CallKind.TheVariants.{Read, Write}
use Rattle.record.specs.Records.{Call, Object, layout_at, bank_at}
use Rattle.record.specs.Journals.{IsJournaled}

-- an erasure code: the bytes of a member's fragment, as a function of the value, k and the member's point
abbrev pub Code : Type 0
Code = List ℕ → ℕ → ℕ → List ℕ

-- each number of the list is a byte
abbrev pub AreBytes : List ℕ → Type 0
AreBytes value = AllByRecursion (λ b. b < 256) value

-- the list is a value: its numbers are bytes, and there are at most LONGEST_VALUE of them
abbrev pub IsValue : List ℕ → Type 0
IsValue value = AreBytes value × (length value ≤ LONGEST_VALUE)

-- for k from 1 to MOST_MEMBERS, k fragments at distinct points determine a value of known length
abbrev pub Determines : Code → Type 0
Determines fragment = (k : ℕ) (points : List ℕ) (v w : List ℕ) → 1 ≤ k → k ≤ MOST_MEMBERS →
    k ≤ length points → IsDistinct nat_eq points → AreBytes points →
    IsValue v → IsValue w → length v ≡ length w →
    AllByRecursion (λ i. fragment v k i ≡ fragment w k i) points → v ≡ w

-- the function is an erasure code: k fragments determine a value, and the fragments of the empty value are empty
pub record IsCode (fragment : Code) : Type 0 where
  pub determines : Determines fragment
  pub empty : (k point : ℕ) → fragment [] k point ≡ []

-- the piece is the member's fragment of the value, with the member's point and the value's length
pub record IsFragment (fragment : Code) (layout : Layout) (member : ℕ) (value : List ℕ)
    (piece : Piece) : Type 0 where
  pub point : piece.point ≡ member
  pub len : piece.len ≡ length value
  pub bytes : piece.bytes ≡ fragment value layout.k member

-- the tag is in the journal, and its piece, if there is one, is the member's fragment of the journal's value
pub record IsCoded (fragment : Code) (object : Object) (position member : ℕ) (tag : Tag)
    (piece : Option Piece) : Type 0 where
  pub value : List ℕ
  pub journaled : IsJournaled object tag value
  pub fits : (kept : Piece) → piece ≡ Some kept →
      IsFragment fragment (layout_at object position) member value kept

-- if there is a tag, it is in the journal, and its piece, if there is one, is the member's fragment of its value
abbrev pub IfCoded : Code → Object → (position member : ℕ) → Option Tag → Option Piece → Type 0
IfCoded fragment object position member None piece = Unit {0}
IfCoded fragment object position member (Some tag) piece = IsCoded fragment object position member tag piece

-- the tag that a phase of this kind names, if it names one
abbrev pub kind_tag : Kind → Option Tag
kind_tag (PreWrite tag) = Some tag
kind_tag (Finalize tag) = Some tag
kind_tag (Fetch tag) = Some tag
kind_tag _ = None

-- the tag that an answer names, or else the tag that the request named
abbrev pub answer_tag : Kind → Answer → Option Tag
answer_tag kind (answer.Greatest tag) = Some tag
answer_tag kind _ = kind_tag kind

-- the piece that an answer carries, if it carries one
abbrev pub answer_piece : Answer → Option Piece
answer_piece (answer.Piece piece) = piece
answer_piece _ = None

-- the tag that a request names, if it names one
abbrev pub request_tag : Request → Option Tag
request_tag (request.PreWrite tag piece) = Some tag
request_tag (request.Finalize tag) = Some tag
request_tag (request.Fetch tag) = Some tag
request_tag _ = None

-- the piece that a request carries, if it carries one
abbrev pub request_piece : Request → Option Piece
request_piece (request.PreWrite tag piece) = Some piece
request_piece _ = None

-- the tag that the body of a message names, if it names one
abbrev pub body_tag : Body → Option Tag
body_tag (body.Request asked) = request_tag asked
body_tag (body.Reply kind made) = answer_tag kind made.answer

-- the piece that the body of a message carries, if it carries one
abbrev pub body_piece : Body → Option Piece
body_piece (body.Request asked) = request_piece asked
body_piece (body.Reply kind made) = answer_piece made.answer

-- each tag in a bank, message or phase is in the journal, and each piece is its member's fragment of the tag's value
pub record AreCoded (fragment : Code) (object : Object) : Type 0 where
  pub banks : (position member : ℕ) (tag : Tag) → knows (bank_at object position member) tag ≡ true →
      IsCoded fragment object position member tag (piece_of (bank_at object position member) tag)
  pub mail : AllByRecursion (λ message. IfCoded fragment object message.position message.member (body_tag message.body)
      (body_piece message.body)) object.mail
  pub phases : (index place : ℕ) (call : Call) (phase : Phase) → slice_get object.calls index ≡ Some call →
      slice_get call.phases place ≡ Some phase → AllByRecursion
      (λ taken. IfCoded fragment object phase.position taken.member
      (answer_tag phase.kind taken.reply.answer) (answer_piece taken.reply.answer))
      phase.replies

-- the phase took a piece from this member, which is the member's fragment of the value
pub record HasPiece (fragment : Code) (object : Object) (phase : Phase) (value : List ℕ) (member : ℕ) : Type 0 where
  pub place : ℕ
  pub reply : Taken
  pub within : slice_get phase.replies place ≡ Some reply
  pub same_member : reply.member ≡ member
  pub piece : Piece
  pub same_piece : reply.reply.answer ≡ answer.Piece (Some piece)
  pub is_fragment : IsFragment fragment (layout_at object phase.position) member value piece

-- a phase of this kind is a fetch
abbrev pub IsFetch : Kind → Type 0
IsFetch kind = (tag : Tag) × (kind ≡ Fetch tag)

-- the phase took pieces from at least k distinct members, and each is its member's fragment of the value
pub record HasPieces (fragment : Code) (object : Object) (phase : Phase) (value : List ℕ) : Type 0 where
  pub members : List ℕ
  pub distinct : IsDistinct nat_eq members
  pub enough : (layout_at object phase.position).k ≤ length members
  pub pieces : AllByRecursion (HasPiece fragment object phase value) members

-- the value has k pieces that the latest fetch of the call took
pub record IsSettled (fragment : Code) (object : Object) (call : Call) (value : List ℕ) : Type 0 where
  pub place : ℕ
  pub phase : Phase
  pub within : slice_get call.phases place ≡ Some phase
  pub fetch : IsFetch phase.kind
  pub latest : (later : ℕ) (other : Phase) → slice_get call.phases later ≡ Some other → place < later →
      IsFetch other.kind → ⊥
  pub pieces : HasPieces fragment object phase value

-- a value is settled from the latest fetch, before the next phase unless pieces are lacking, and before a read's answer
pub record AreSettled (fragment : Code) (object : Object) : Type 0 where
  pub settled : (index : ℕ) (call : Call) (value : List ℕ) → slice_get object.calls index ≡ Some call →
      call.settled ≡ Some value → IsSettled fragment object call value
  pub before_next : (index place : ℕ) (call : Call) (phase next : Phase) →
      slice_get object.calls index ≡ Some call → slice_get call.phases place ≡ Some phase →
      IsFetch phase.kind → slice_get call.phases (suc place) ≡ Some next →
      IsSome call.settled ⊎ (lacks_pieces phase ≡ true)
  pub before_answer : (index : ℕ) (call : Call) → slice_get object.calls index ≡ Some call →
      call.kind ≡ Read → IsSome call.answered → IsSome call.settled

-- each value that a call writes or settles consists of bytes, and is within the limit
pub record AreValues (object : Object) : Type 0 where
  pub written : (index : ℕ) (call : Call) (value : List ℕ) → slice_get object.calls index ≡ Some call →
      call.kind ≡ Write value → IsValue value
  pub settled : (index : ℕ) (call : Call) (value : List ℕ) → slice_get object.calls index ≡ Some call →
      call.settled ≡ Some value → IsValue value

-- the phase took a piece from this member
pub record TookPiece (phase : Phase) (member : ℕ) : Type 0 where
  pub place : ℕ
  pub reply : Taken
  pub within : slice_get phase.replies place ≡ Some reply
  pub same_member : reply.member ≡ member
  pub some_piece : IsSome (answer_piece reply.reply.answer)

-- the phase took a reply that was made when its member had dropped the pieces of the tag
pub record HasDropped (object : Object) (phase : Phase) (tag : Tag) : Type 0 where
  pub place : ℕ
  pub reply : Taken
  pub within : slice_get phase.replies place ≡ Some reply
  pub dropped : is_dropped_at (bank_at object phase.position reply.member) tag reply.reply.step ≡ true

-- the phase took pieces from at least k distinct members
pub record HasEnough (object : Object) (phase : Phase) : Type 0 where
  pub members : List ℕ
  pub distinct : IsDistinct nat_eq members
  pub enough : (layout_at object phase.position).k ≤ length members
  pub pieces : AllByRecursion (TookPiece phase) members
