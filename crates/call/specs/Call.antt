-- A call that is not answered, and the stage that it has reached.
use Rattle.std.specs.Prelude.{◌≡◌, ℕ, List, Option}
use Rattle.mail.specs.Phase.{Phase, lacks_pieces}
use Rattle.record.specs.declared.call.CallKind.{CallKind}
use Rattle.record.specs.declared.stage.Stage.{Stage}
use Rattle.record.specs.PhaseOrder.{begun_at, passed}

-- a call that is not answered: its id, kind, settled value, current phase, and the stage at which that phase began
pub record OpenCall : Type 0 where
  pub id : ℕ
  pub kind : CallKind
  pub settled : Option (List ℕ)
  pub stage : Stage
  pub phase : Phase

-- the invariant of `Call`: its phase names it, and a first reading that was to begin has begun with the phase
pub record IsCall (call : OpenCall) : Type 0 where
  pub named : call.phase.call ≡ call.id
  pub begun : (position : ℕ) → begun_at call.stage position ≡ call.stage

-- the stage to which the current phase leads
abbrev pub reached : OpenCall → Stage
reached call = passed call.kind call.id call.stage call.phase.end call.phase.replies (lacks_pieces call.phase)
