use Rattle.std.proofs.Common.{inr, ap, ◌∙◌}
use Rattle.cluster.specs.Steps.{with_step}
use Rattle.locked_steps.proofs.ReachableLemmas.{goes_on_step}
use Rattle.locked_steps.proofs.RoundLemmas.{kept_step, quiet_handling}
use Rattle.driver.proofs.LimitRefusalLemmas.{err_of}
use Rattle.locked_steps.proofs.ChosenMessageLemmas.{stirred, handled_step}
use Rattle.locked_steps.proofs.messages.stir.Goals as goal

pub returns-in_err-handle_at-clause-refused : goal.returns-in_err-handle_at-clause-refused
returns-in_err-handle_at-clause-refused g c =
    let s = stirred g.C.Chooser.chooses c.args.name.now c.args.cluster.now c.args.chooser.now c.choose.new.chooser
    c.register_at-register.result.now c.register_at-register.ensures
    c.in-Some.place c.in-Some.ensures in
    err_of _ _ _ c.from_residual-in_err-handle_at.ensures.1 (inr (c.in-Some.place, s.0, s.1, c.in_err-handle_at.ensures.cause))

pub returns-clause-step : goal.returns-clause-step
returns-clause-step g c =
    let s = stirred g.C.Chooser.chooses c.args.name.now c.args.cluster.now c.args.chooser.now c.choose.new.chooser
    c.register_at-register.result.now c.register_at-register.ensures
    c.in-Some.place c.in-Some.ensures in
    let is = handled_step g.C.Chooser.chooses c.args.name.now c.args.cluster.now c.args.chooser.now c.choose.new.chooser
    c.register_at-register.result.now
    c.register_at-register.ensures c.in-Some.place c.in-Some.ensures s.0 s.1 c.in_ok-handle_at.field-0 c.in_ok-handle_at.ensures.handled in
    (c.in-Some.place, s.0, s.1, c.in_ok-handle_at.ensures.step ∙ ap (λ x. with_step c.args.cluster.now c.args.name.now x) is)

pub returns-clause-count : goal.returns-clause-count
returns-clause-count g c =
    let s = stirred g.C.Chooser.chooses c.args.name.now c.args.cluster.now c.args.chooser.now c.choose.new.chooser
    c.register_at-register.result.now c.register_at-register.ensures
    c.in-Some.place c.in-Some.ensures in
    let is = handled_step g.C.Chooser.chooses c.args.name.now c.args.cluster.now c.args.chooser.now c.choose.new.chooser
    c.register_at-register.result.now
    c.register_at-register.ensures c.in-Some.place c.in-Some.ensures s.0 s.1 c.in_ok-handle_at.field-0 c.in_ok-handle_at.ensures.handled in
    kept_step c.args.cluster.now c.handle_at.new.cluster c.args.name.now _ (quiet_handling c.in-Some.place s.0.body)
    (c.in_ok-handle_at.ensures.step ∙ ap (λ x. with_step c.args.cluster.now c.args.name.now x) is)

pub returns-clause-course : goal.returns-clause-course
returns-clause-course g c =
    goes_on_step c.args.cluster.now c.handle_at.new.cluster c.args.name.now _ c.in_ok-handle_at.ensures.may c.in_ok-handle_at.ensures.step
