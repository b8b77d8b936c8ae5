-- The contracts that docs/trusted.md lists do not depend on this file; other contracts and proofs do.
-- The calls that a node carries out: their list, their current phase, and when they may go on.
use Rattle.std.specs.Prelude.{◌≡◌, ◌≢◌, ℕ, ◌==◌, not, true, if◌then◌else◌}
use Rattle.std.specs.Prelude.{List, [], ◌∷◌, map, Option, None, Some, IsSome}
use Rattle.std.specs.List.{AllByRecursion, filter}
use Rattle.bank.specs.declared.kind.Kind.{Kind}
use Rattle.mail.specs.declared.message.Message.{Message}
use Rattle.mail.specs.Phase.{Phase, after_take, lacks_pieces}
use Rattle.record.specs.declared.call.CallKind.{CallKind}
use Rattle.record.specs.declared.stage.Stage.{Stage}
use Rattle.record.specs.Fragments.{IsFetch}
use Rattle.record.specs.PhaseOrder.{begun_at, due, passed}

-- a call that a node carries out: its id, kind, settled value, current phase, and the stage at which that began
pub record NodeCall : Type 0 where
  pub node : ℕ
  pub id : ℕ
  pub kind : CallKind
  pub settled : Option (List ℕ)
  pub stage : Stage
  pub phase : Phase

-- Lists of open calls

-- the open call with this id, if a node carries it out
abbrev pub open_call : List NodeCall → (id : ℕ) → Option NodeCall
open_call [] id = None
open_call (call ∷ calls) id = if call.id == id then Some call else open_call calls id

-- the calls with this one in the place of the one with its id
abbrev pub with_open : NodeCall → List NodeCall → List NodeCall
with_open call calls = map (λ other. if other.id == call.id then call else other) calls

-- the calls without the one with this id
abbrev pub without_call : (id : ℕ) → List NodeCall → List NodeCall
without_call id calls = filter (λ call. not (call.id == id)) calls

-- no two of the calls have the same id
abbrev pub NodeCallsDiffer : List NodeCall → Type 0
NodeCallsDiffer [] = Unit {0}
NodeCallsDiffer (call ∷ calls) = AllByRecursion (λ other. other.id ≢ call.id) calls × NodeCallsDiffer calls

-- The current phase of a call

-- the stage to which the current phase of a call leads
abbrev pub stage_reached : NodeCall → Stage
stage_reached call =
    passed call.kind call.id call.stage call.phase.end call.phase.replies (lacks_pieces call.phase)

-- the phase that is due for a call, with its position; a first reading begins at position 0
abbrev pub due_phase : NodeCall → Option (Kind × ℕ)
due_phase call = due (begun_at (stage_reached call) 0)

-- the call after its current phase takes the message
abbrev pub taking_open : Message → NodeCall → NodeCall
taking_open message call = record call { phase = after_take call.phase message 0 }

-- the current phase of the call has a quorum, and if it is a fetch, its value is settled
pub record IsReady (call : NodeCall) : Type 0 where
  pub complete : IsSome call.phase.end
  pub fetched : IsFetch call.phase.kind → IsSome call.settled

-- the current phase of the call is a complete fetch that lacks pieces, so the call begins anew
pub record IsLacking (call : NodeCall) : Type 0 where
  pub complete : IsSome call.phase.end
  pub fetch : IsFetch call.phase.kind
  pub unsettled : call.settled ≡ None
  pub lacks : lacks_pieces call.phase ≡ true
