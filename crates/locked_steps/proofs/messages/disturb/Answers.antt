use Rattle.std.proofs.Common.{◌%◌, length, inl, inr, refl, sym, ap, ◌∙◌, arith}
use Rattle.std.proofs.lemmas.Grind.{common_steps}
use Rattle.record.specs.Steps.{Step}
use Rattle.cluster.specs.Steps.{with_step}
use Rattle.locked_steps.proofs.ReachableLemmas.{goes_on_step}
use Rattle.locked_steps.proofs.RoundLemmas.{kept_step}
use Rattle.driver.proofs.LimitRefusalLemmas.{err_of}
use Rattle.locked_steps.proofs.ChosenMessageLemmas.{disturbed, even, odd, lose_is, repeat_is, moved_by}
use Rattle.locked_steps.proofs.messages.disturb.Goals as goal

pub returns-in_err-lose-clause-refused : goal.returns-in_err-lose-clause-refused
returns-in_err-lose-clause-refused g c =
    let d = disturbed g.C.Chooser.chooses c.args.name.now c.args.cluster.now c.args.chooser.now c.choose.new.self c.choose-2.new.self
    c.in_ok-register.field-0.now
    c.in_ok-register.ensures.object c.len-count.result c.choose.result c.choose-2.result (c.choose.result % c.len-count.result)
    (c.len-count.ensures.value ∙ ap length c.mail_view.ensures) c.choose.ensures c.choose-2.ensures refl in
    err_of _ _ _ c.from_residual-in_err-lose.ensures.1
    (inr (
      c.choose.result % c.len-count.result,
      c.choose-2.result,
      d,
      inl (lose_is c.args.name.now c.args.cluster.now c.in_ok-register.field-0.now c.in_ok-register.ensures.object
          (c.choose.result % c.len-count.result) c.choose-2.result c.if-choose-eq0.true ∙ c.in_err-lose.ensures.cause),
    ))

pub returns-in_ok-lose-clause-step : goal.returns-in_ok-lose-clause-step
returns-in_ok-lose-clause-step g c =
    let d = disturbed g.C.Chooser.chooses c.args.name.now c.args.cluster.now c.args.chooser.now c.choose.new.self c.choose-2.new.self
    c.in_ok-register.field-0.now
    c.in_ok-register.ensures.object c.len-count.result c.choose.result c.choose-2.result (c.choose.result % c.len-count.result)
    (c.len-count.ensures.value ∙ ap length c.mail_view.ensures) c.choose.ensures c.choose-2.ensures refl in
    let is = even (Step.Lose (c.choose.result % c.len-count.result)) (Step.Repeat (c.choose.result % c.len-count.result)) c.choose-2.result
    c.if-choose-eq0.true in (
      c.choose.result % c.len-count.result,
      c.choose-2.result,
      d,
      c.in_ok-lose.ensures.step ∙ ap (λ x. with_step c.args.cluster.now c.args.name.now x) (sym is),
    )

pub returns-in_ok-lose-clause-count : goal.returns-in_ok-lose-clause-count
returns-in_ok-lose-clause-count g c =
    kept_step c.args.cluster.now c.lose.new.self c.args.name.now (Step.Lose (c.choose.result % c.len-count.result)) refl
    c.in_ok-lose.ensures.step

pub returns-in_err-repeat-clause-refused : goal.returns-in_err-repeat-clause-refused
returns-in_err-repeat-clause-refused g c =
    let d = disturbed g.C.Chooser.chooses c.args.name.now c.args.cluster.now c.args.chooser.now c.choose.new.self c.choose-2.new.self
    c.in_ok-register.field-0.now
    c.in_ok-register.ensures.object c.len-count.result c.choose.result c.choose-2.result (c.choose.result % c.len-count.result)
    (c.len-count.ensures.value ∙ ap length c.mail_view.ensures) c.choose.ensures c.choose-2.ensures refl in
    err_of _ _ _ c.from_residual-in_err-repeat.ensures.1
    (inr (
      c.choose.result % c.len-count.result,
      c.choose-2.result,
      d,
      moved_by (repeat_is c.args.name.now c.args.cluster.now c.in_ok-register.field-0.now c.in_ok-register.ensures.object
          (c.choose.result % c.len-count.result) c.choose-2.result c.if-choose-eq0.false) c.in_err-repeat.ensures.cause,
    ))

pub returns-in_ok-repeat-clause-step : goal.returns-in_ok-repeat-clause-step
returns-in_ok-repeat-clause-step g c =
    let d = disturbed g.C.Chooser.chooses c.args.name.now c.args.cluster.now c.args.chooser.now c.choose.new.self c.choose-2.new.self
    c.in_ok-register.field-0.now
    c.in_ok-register.ensures.object c.len-count.result c.choose.result c.choose-2.result (c.choose.result % c.len-count.result)
    (c.len-count.ensures.value ∙ ap length c.mail_view.ensures) c.choose.ensures c.choose-2.ensures refl in
    let is = odd (Step.Lose (c.choose.result % c.len-count.result)) (Step.Repeat (c.choose.result % c.len-count.result)) c.choose-2.result
    c.if-choose-eq0.false in (
      c.choose.result % c.len-count.result,
      c.choose-2.result,
      d,
      c.in_ok-repeat.ensures.step ∙ ap (λ x. with_step c.args.cluster.now c.args.name.now x) (sym is),
    )

pub returns-in_ok-repeat-clause-count : goal.returns-in_ok-repeat-clause-count
returns-in_ok-repeat-clause-count g c =
    kept_step c.args.cluster.now c.repeat.new.self c.args.name.now (Step.Repeat (c.choose.result % c.len-count.result)) refl
    c.in_ok-repeat.ensures.step

pub returns-in_ok-lose-clause-course : goal.returns-in_ok-lose-clause-course
returns-in_ok-lose-clause-course g c =
    goes_on_step c.args.cluster.now c.lose.new.self c.args.name.now (Step.Lose (c.choose.result % c.len-count.result))
    c.in_ok-lose.ensures.may c.in_ok-lose.ensures.step

pub returns-in_ok-repeat-clause-course : goal.returns-in_ok-repeat-clause-course
returns-in_ok-repeat-clause-course g c =
    goes_on_step c.args.cluster.now c.repeat.new.self c.args.name.now (Step.Repeat (c.choose.result % c.len-count.result))
    c.in_ok-repeat.ensures.may c.in_ok-repeat.ensures.step

pub returns-then-count-eq0-clause-step : goal.returns-then-count-eq0-clause-step
returns-then-count-eq0-clause-step g c = grind (arith, common_steps)
