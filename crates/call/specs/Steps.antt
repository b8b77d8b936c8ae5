-- The contracts that docs/trusted.md lists do not depend on this file; other contracts and proofs do.
-- How the steps of a call change it.
use Rattle.std.specs.Prelude.{ℕ, suc, None}
use Rattle.layout.specs.Layout.{Layout}
use Rattle.bank.specs.declared.kind.Kind.{Kind}
use Rattle.mail.specs.declared.message.Message.{Message}
use Rattle.mail.specs.Phase.{Phase, after_take}
use Rattle.record.specs.declared.call.CallKind.{CallKind}
use Rattle.record.specs.declared.stage.Stage.{Stage}
use Rattle.record.specs.PhaseOrder.{begun_at}
use Rattle.record.specs.Steps.{new_phase}
use Rattle.call.specs.Call.{OpenCall, reached}

-- a call that begins at a stage, with its first phase, which has this number
abbrev pub begun_call : (id number : ℕ) → CallKind → Stage → Kind → (position : ℕ) → Layout → (now : ℕ) → OpenCall
begun_call id number kind stage asked position layout now = record {
  id = id;
  kind = kind;
  settled = None;
  stage = begun_at stage position;
  phase = new_phase id number asked position layout now;
}

-- the phase of this kind that the call makes next, numbered one more than the current one
abbrev pub phase_next : OpenCall → Kind → (position : ℕ) → Layout → (now : ℕ) → Phase
phase_next call kind position layout now = new_phase call.id (suc call.phase.number) kind position layout now

-- the call after this phase takes the place of the current one
abbrev pub entered : OpenCall → Phase → OpenCall
entered call phase = record call { stage = begun_at (reached call) phase.position; phase = phase }

-- the call after its current phase takes a message
abbrev pub taken_call : Message → (now : ℕ) → OpenCall → OpenCall
taken_call message now call = record call { phase = after_take call.phase message now }
