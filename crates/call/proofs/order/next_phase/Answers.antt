use Rattle.std.proofs.Common.{◌≡◌, ◌+◌, ◌∷◌, drop, sym, subst, ap, ◌∙◌, arith}
use Rattle.std.proofs.lemmas.Grind.{common_steps}
use Rattle.record.specs.declared.call.CallKind.TheVariants.{Move}
use Rattle.record.specs.PhaseOrder.{stage_after}
use Rattle.call.proofs.MoveStageLemmas.{IsMoveFrom, due-moves, move_past}
use Rattle.call.proofs.order.next_phase.Goals as goal

pub returns-clause-order : goal.returns-clause-order
returns-clause-order c = λ complete.
    let ordered = due-moves c.args.from c.args.done.now complete in
    let rest = c.loop-phase.invariant.rest 0 in
    grind (arith, common_steps)

pub loop-phase-preserved : goal.loop-phase-preserved
loop-phase-preserved c =
    let past = move_past c.args.from c.loop-phase.stage c.phase-item.result c.loop-phase.invariant.moves in
    let there : c.phase-item.result ∷ drop (c.loop-phase.phase-index + 1) c.args.done.now ≡ drop c.loop-phase.phase-index c.args.done.now =
    grind (arith, common_steps) in
    record {
      moves = subst (IsMoveFrom c.args.from) (sym c.passed-stage.ensures) past.0;
      rest = λ number.
          ap (λ stage. stage_after Move number stage (drop (c.loop-phase.phase-index + 1) c.args.done.now))
          (c.passed-stage.ensures ∙ sym (past.1 number))
          ∙ ap (λ phases. stage_after Move number c.loop-phase.stage phases) there
          ∙ c.loop-phase.invariant.rest number;
    }
