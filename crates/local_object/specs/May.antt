-- When an event may happen at a node's object, as far as the node can tell from what it keeps.
use Rattle.std.specs.Prelude.{◌≡◌, ◌≢◌, ◌⊎◌, ◌<◌, ◌≤◌, ℕ, suc, List, [], ◌∷◌, None, Some, IsSome, false, slice_get}
use Rattle.std.specs.List.{AllByRecursion, count_by}
use Rattle.layout.specs.Layout.{Layout, IsLawful, quorum_of}
use Rattle.bank.specs.declared.kind.Kind.{Kind}
use Rattle.bank.specs.declared.kind.Kind.TheVariants.{Next, Spread}
use Rattle.bank.specs.declared.reply.Reply.{Reply}
use Rattle.bank.specs.declared.request.Request.{Request}
use Rattle.bank.specs.declared.status.Status.TheVariants.{Final}
use Rattle.mail.specs.declared.message.Body.TheVariants as body
use Rattle.mail.specs.Phase.{lacks_pieces}
use Rattle.record.specs.declared.call.CallKind.TheVariants.{Move}
use Rattle.record.specs.declared.stage.Stage.TheVariants.{ReadBegin, ReadNext}
use Rattle.record.specs.Legal.{is_move}
use Rattle.record.specs.Fragments.{Code, IsValue, IsFetch, HasPieces}
use Rattle.record.specs.Records.{Object, layout_at}
use Rattle.open_calls.specs.OpenCalls.{NodeCall, open_call, due_phase, stage_reached, IsReady, IsLacking}
use Rattle.letter.specs.declared.letter.Letter.{Letter}
use Rattle.local_object.specs.KeptBanks.{closing}
use Rattle.local_object.specs.Local.{LocalObject, bank_in, heard_place, layout_here}
use Rattle.local_object.specs.Early.{EndsAtOnceHere, EndsHeldHere}
use Rattle.local_object.specs.Reports.{tells_unset}
use Rattle.local_object.specs.Starting.{IsReadingHere}
use Rattle.local_object.specs.Events.{LocalEvent, done_here}
use Rattle.local_object.specs.Outcomes.{learnt_from}

-- the node carries out the call with this id
abbrev pub IsCarriedOut : LocalObject → (id : ℕ) → NodeCall → Type 0
IsCarriedOut local id call = open_call local.calls id ≡ Some call

-- the node is the member that the letter names, by the layout of the letter's position
abbrev pub IsAddressed : LocalObject → Letter → Type 0
IsAddressed local letter = (layout : Layout) × (layout_here local letter.message.position ≡ Some layout)
    × (slice_get layout.members letter.message.member ≡ Some local.node)

-- the value may be settled: the current phase is a complete fetch, which took k pieces of it by its position's layout
pub record IsFetchedHere (fragment : Code) (local : LocalObject) (call : NodeCall) (value : List ℕ) : Type 0 where
  pub complete : IsSome call.phase.end
  pub fetch : IsFetch call.phase.kind
  pub unsettled : call.settled ≡ None
  pub enough : lacks_pieces call.phase ≡ false
  pub layout : Layout
  pub known : layout_here local call.phase.position ≡ Some layout
  pub pieces : (object : Object) → layout_at object call.phase.position ≡ layout →
      HasPieces fragment object call.phase value
  pub is_value : IsValue value

-- the current phase of the call has raised the pointer of a position to final, at a quorum
pub record HasSpreadAt (call : NodeCall) (position : ℕ) : Type 0 where
  pub kind : call.phase.kind ≡ Spread Final
  pub complete : IsSome call.phase.end
  pub at : call.phase.position ≡ position

-- the node keeps a bank of a position before its start, as a member of the position, and has heard of the next one
pub record IsMemberBefore (local : LocalObject) (position : ℕ) : Type 0 where
  pub before : position < local.start
  pub bank : IsSome (bank_in (heard_place local.places position))
  pub layout : Layout
  pub known : layout_here local position ≡ Some layout
  pub member : ℕ
  pub server : slice_get layout.members member ≡ Some local.node
  pub next : IsSome (layout_here local (suc position))

-- the call is a read or a write that asks for the pointers of the first position that counts, and as many members as
-- are a quorum told it that theirs are unset
pub record IsToldByQuorum (local : LocalObject) (call : NodeCall) : Type 0 where
  pub client : is_move call.kind ≡ false
  pub stage : call.stage ≡ ReadNext call.phase.position call.phase.position
  pub kind : call.phase.kind ≡ Next
  pub layout : Layout
  pub known : layout_here local call.phase.position ≡ Some layout
  pub quorum : quorum_of layout ≤ count_by (tells_unset call.id call.phase.number) local.reports

-- the event may happen, as far as the node can tell
abbrev pub MayHappenHere : Code → LocalObject → LocalEvent → Type 0
MayHappenHere fragment local (LocalEvent.BeginRead id) = IsSome (layout_here local local.start)
MayHappenHere fragment local (LocalEvent.BeginWrite id value) = IsSome (layout_here local local.start) × IsValue value
MayHappenHere fragment local (LocalEvent.BeginMove id layout) =
    IsLawful layout × AllByRecursion (λ call. call.kind ≢ Move) local.calls
MayHappenHere fragment local (LocalEvent.Advance id) =
    (call : NodeCall) × IsCarriedOut local id call × ((IsReady call × IsSome (due_phase call)) ⊎ IsLacking call)
    × ((kind : Kind) (position : ℕ) → due_phase call ≡ Some (kind, position) → IsSome (layout_here local position))
MayHappenHere fragment local (LocalEvent.Serve letter) =
    ((asked : Request) × (letter.message.body ≡ body.Request asked)) × IsAddressed (learnt_from local letter) letter
MayHappenHere fragment local (LocalEvent.Take letter) =
    (kind : Kind) × (made : Reply) × (letter.message.body ≡ body.Reply kind made)
MayHappenHere fragment local (LocalEvent.Settle id value) =
    (call : NodeCall) × IsCarriedOut local id call × IsFetchedHere fragment local call value
MayHappenHere fragment local (LocalEvent.Answer id) =
    (call : NodeCall) × IsCarriedOut local id call × IsReady call × (due_phase call ≡ None)
MayHappenHere fragment local (LocalEvent.GiveUp id) =
    AllByRecursion (λ call. call.id ≡ id → call.kind ≢ Move) local.calls
MayHappenHere fragment local (LocalEvent.Close position) =
    IsSome (closing (bank_in (heard_place local.places position)))
MayHappenHere fragment local (LocalEvent.Grow id) =
    (call : NodeCall) × IsCarriedOut local id call × HasSpreadAt call local.start
MayHappenHere fragment local (LocalEvent.Hear letter) = Unit {0}
MayHappenHere fragment local (LocalEvent.Redirect letter) = Unit {0}
MayHappenHere fragment local (LocalEvent.ReadOn id) =
    (call : NodeCall) × IsCarriedOut local id call × IsReadingHere local call × (call.phase.position < local.start)
    × IsSome (layout_here local local.start)
MayHappenHere fragment local (LocalEvent.BeginAnew id) =
    (call : NodeCall) × IsCarriedOut local id call × IsLacking call × (stage_reached call ≡ ReadBegin)
    × IsSome (layout_here local local.start)
MayHappenHere fragment local (LocalEvent.Raise position) = IsMemberBefore local position
MayHappenHere fragment local (LocalEvent.EndEarly id value) =
    (call : NodeCall) × IsCarriedOut local id call
    × (EndsHeldHere fragment local call value ⊎ EndsAtOnceHere fragment local call value)
MayHappenHere fragment local (LocalEvent.Query id) =
    (call : NodeCall) × IsCarriedOut local id call × IsToldByQuorum local call

-- these events may happen here one after another
abbrev pub MayAllHappen : Code → LocalObject → List LocalEvent → Type 0
MayAllHappen fragment local [] = Unit {0}
MayAllHappen fragment local (event ∷ events) =
    MayHappenHere fragment local event × MayAllHappen fragment (done_here fragment local event).local events
