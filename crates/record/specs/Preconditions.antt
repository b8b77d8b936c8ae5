-- When each step may be made, as far as the record says.
use Rattle.std.specs.Prelude.{◌≡◌, ◌⊎◌, ℕ, suc, List, [], ◌∷◌, Some, IsSome, slice_get}
use Rattle.tag.specs.declared.tag.Tag.{Tag}
use Rattle.layout.specs.Layout.{IsLawful}
use Rattle.bank.specs.declared.kind.Kind.{Kind}
use Rattle.bank.specs.declared.kind.Kind.TheVariants.{PreWrite}
use Rattle.bank.specs.declared.reply.Reply.{Reply}
use Rattle.bank.specs.declared.request.Request.{Request}
use Rattle.mail.specs.declared.message.Message.{Message}
use Rattle.mail.specs.declared.message.Body.TheVariants as body
use Rattle.mail.specs.Phase.{Phase}
use Rattle.record.specs.declared.call.CallKind.TheVariants.{Move}
use Rattle.record.specs.declared.stage.Want.TheVariants as want
use Rattle.record.specs.Records.{Call, Object, IsNewId, base_of}
use Rattle.record.specs.Legal.{IsMovedOut}
use Rattle.record.specs.Fragments.{Code, IsValue, HasPieces}
use Rattle.record.specs.Wants.{Wants, current_phase}
use Rattle.record.specs.Steps.{Step, stepped}

-- a phase of this kind sends pieces
abbrev pub IsPreWrite : Kind → Type 0
IsPreWrite kind = (tag : Tag) × (kind ≡ PreWrite tag)

-- the call has this current phase, which lacks a quorum
pub record IsWaiting (object : Object) (index : ℕ) (call : Call) (phase : Phase) : Type 0 where
  pub wants : Wants object index call want.Replies
  pub current : current_phase call.phases ≡ Some phase

-- the call wants the pieces of its value, to begin a phase that sends them
abbrev pub WantsPieces : Object → (index : ℕ) → Call → Type 0
WantsPieces object index call = (k : ℕ) × (n : ℕ) × Wants object index call (want.Supply k n)

-- the current phase of the call sends pieces and lacks a quorum
abbrev pub AwaitsPieces : Object → (index : ℕ) → Call → Type 0
AwaitsPieces object index call = (phase : Phase) × IsWaiting object index call phase × IsPreWrite phase.kind

-- a supply may be made: the call wants its pieces, or its current phase sends pieces and lacks a quorum
pub record MaySupply (object : Object) (index : ℕ) : Type 0 where
  pub call : Call
  pub takes : WantsPieces object index call ⊎ AwaitsPieces object index call

-- a post may be made: the call's current phase lacks a quorum and sends no pieces
pub record MayPost (object : Object) (index : ℕ) : Type 0 where
  pub call : Call
  pub phase : Phase
  pub waiting : IsWaiting object index call phase
  pub plain : ¬ (IsPreWrite phase.kind)

-- this value may be settled: the call wants a value, and its current phase took k pieces of this one
pub record MaySettle (fragment : Code) (object : Object) (index : ℕ) (value : List ℕ) : Type 0 where
  pub call : Call
  pub k : ℕ
  pub len : ℕ
  pub wants : Wants object index call (want.Settle k len)
  pub phase : Phase
  pub current : current_phase call.phases ≡ Some phase
  pub pieces : HasPieces fragment object phase value
  pub is_value : IsValue value

-- every move is answered
abbrev pub NoOpenMove : Object → Type 0
NoOpenMove object = (index : ℕ) (call : Call) → slice_get object.calls index ≡ Some call →
    call.kind ≡ Move → IsSome call.answered

-- the message at this place is a request
abbrev pub IsRequestAt : Object → (place : ℕ) → Message → Type 0
IsRequestAt object place message =
    (slice_get object.mail place ≡ Some message) × ((asked : Request) × (message.body ≡ body.Request asked))

-- the message at this place is a reply
abbrev pub IsReplyAt : Object → (place : ℕ) → Message → Type 0
IsReplyAt object place message =
    (slice_get object.mail place ≡ Some message)
    × ((kind : Kind) × (made : Reply) × (message.body ≡ body.Reply kind made))

-- the step may be made, as far as the record says
abbrev pub MayStep : Code → Object → Step → Type 0
MayStep fragment object (Step.CallRead id) = IsNewId object id
MayStep fragment object (Step.CallWrite id value) = IsNewId object id × IsValue value
MayStep fragment object (Step.CallMove id layout) = IsNewId object id × IsLawful layout × NoOpenMove object
MayStep fragment object (Step.Advance index) = (call : Call) × Wants object index call want.Advance
MayStep fragment object (Step.Again index) = (call : Call) × Wants object index call want.Again
MayStep fragment object (Step.Supply index) = MaySupply object index
MayStep fragment object (Step.Post index) = MayPost object index
MayStep fragment object (Step.Settle index value) = MaySettle fragment object index value
MayStep fragment object (Step.AnswerCall index) = (call : Call) × Wants object index call want.Answer
MayStep fragment object (Step.Serve place) = (message : Message) × IsRequestAt object place message
MayStep fragment object (Step.Take place) = (message : Message) × IsReplyAt object place message
MayStep fragment object (Step.Lose place) = (message : Message) × (slice_get object.mail place ≡ Some message)
MayStep fragment object (Step.Repeat place) = (message : Message) × (slice_get object.mail place ≡ Some message)
MayStep fragment object Step.Retire = (answered : ℕ) × IsMovedOut object (base_of object) answered

-- these steps may be made one after another, the first with the number `now`
abbrev pub MayRun : Code → List Step → (now : ℕ) → Object → Type 0
MayRun fragment [] now object = Unit {0}
MayRun fragment (step ∷ steps) now object =
    MayStep fragment object step × MayRun fragment steps (suc now) (stepped fragment step now object)
