use Rattle.std.proofs.Common.{IfErr, refl, sym, subst}
use Rattle.std.proofs.lemmas.Result.{IfOk-weaker}
use Rattle.driver.specs.Driver.{IsRefused}
use Rattle.driver.specs.Rounds.{MakesRound, MakesStep}
use Rattle.driver.specs.declared.round.Round.TheVariants as round
use Rattle.driver.proofs.LimitRefusalLemmas.{err_of}
use Rattle.driver.proofs.StepRefusalLemmas.{number_refused}
use Rattle.driver.proofs.TurnLemmas.{stepped_turn}
use Rattle.driver.proofs.driver.make_step.Goals as goal

pub returns-clause-turn : goal.returns-clause-turn
returns-clause-turn g c =
    IfOk-weaker c.make_step_at.result _ _
    (λ b steps is.
    stepped_turn g.C.Chooser.chooses c.args.name.now c.args.call c.args.asks_again c.args.cluster.now c.args.chooser.now
    c.make_step_at.new.cluster c.make_step_at.new.chooser round.Stepped refl
    (subst (λ again. MakesRound g.C.Chooser.chooses c.args.name.now c.args.call again c.args.cluster.now c.args.chooser.now
    c.make_step_at.new.cluster c.make_step_at.new.chooser round.Stepped) (sym c.if-asks_again.false)
    (subst (MakesStep g.C.Chooser.chooses c.args.name.now c.args.call c.args.cluster.now c.args.chooser.now
    c.make_step_at.new.cluster c.make_step_at.new.chooser) is steps)))
    c.make_step_at.ensures.step

pub returns-clause-same : goal.returns-clause-same
returns-clause-same g c =
    IfOk-weaker c.make_step_at.result _ _
    (λ b steps is.
    let same = subst (MakesStep g.C.Chooser.chooses c.args.name.now c.args.call c.args.cluster.now c.args.chooser.now
    c.make_step_at.new.cluster c.make_step_at.new.chooser) is steps in (same.0, same.1))
    c.make_step_at.ensures.step

pub returns-in_err-want-clause-refused : goal.returns-in_err-want-clause-refused
returns-in_err-want-clause-refused g c =
    err_of _ _ _ c.from_residual.ensures.1
    (number_refused g.C.Chooser.chooses c.args.name.now c.args.call c.args.cluster.now c.args.asks_again c.args.chooser.now
    c.in_err-want.field-0.0 c.in_err-want.ensures.cause)

pub make_step_at-requires-clause-wanted : goal.make_step_at-requires-clause-wanted
make_step_at-requires-clause-wanted g c = c.in_ok-want.ensures.want

pub returns-clause-refused : goal.returns-clause-refused
returns-clause-refused g c =
    subst (λ again. IfErr c.make_step_at.result (λ e. IsRefused g.C.Chooser.chooses c.args.name.now c.args.call c.args.cluster.now again
    c.args.chooser.now c.make_step_at.new.chooser e)) (sym c.if-asks_again.false) c.make_step_at.ensures.refused
