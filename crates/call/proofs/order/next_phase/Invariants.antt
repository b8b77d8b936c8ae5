use Rattle.std.proofs.Common.{◌≡◌, ℕ, drop}
use Rattle.record.specs.declared.call.CallKind.TheVariants.{Move}
use Rattle.record.specs.declared.stage.Stage.TheVariants.{MoveSpread}
use Rattle.record.specs.PhaseOrder.{stage_after}
use Rattle.call.proofs.MoveStageLemmas.{IsMoveFrom}
use Rattle.call.proofs.order.next_phase.Given as goal

abbrev pub invariant-loop-phase : goal.invariant-loop-phase
invariant-loop-phase l = record {
  moves : IsMoveFrom l.fn.from l.stage;
  rest : (number : ℕ) → stage_after Move number l.stage (drop l.phase-index l.done) ≡ stage_after Move number (MoveSpread l.fn.from) l.done;
}
