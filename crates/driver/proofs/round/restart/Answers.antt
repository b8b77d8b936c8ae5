use Rattle.std.proofs.Common.{pred, refl}
use Rattle.driver.proofs.LimitRefusalLemmas.{err_of}
use Rattle.driver.proofs.StepRefusalLemmas.{again_refused}
use Rattle.driver.proofs.StepRefusalLemmas.{turn_of}
use Rattle.driver.proofs.WantLemmas.{again_no_answer}
use Rattle.record.specs.Steps.{Step}
use Rattle.record.specs.declared.stage.Want.TheVariants as want
use Rattle.driver.proofs.round.restart.Goals as goal

pub returns-then-not-asks_again-clause-refused : goal.returns-then-not-asks_again-clause-refused
returns-then-not-asks_again-clause-refused g c =
    (refl, c.if-not-asks_again.true, c.requires.wanted)

pub returns-clause-round : goal.returns-clause-round
returns-clause-round g c = (
  turn_of g.C.Chooser.chooses c.args.name.now c.args.call c.args.cluster.now c.args.asks_again c.args.chooser.now
      want.Again (Step.Again (pred c.args.call)) c.again_at.new.self
      c.requires.wanted (λ object w. (c.if-not-asks_again.false, refl, refl))
      c.in_ok-again_at.ensures.cause c.in_ok-again_at.ensures.may c.in_ok-again_at.ensures.step,
  again_no_answer _ c.requires.wanted,
)

pub returns-in_err-again_at-clause-refused : goal.returns-in_err-again_at-clause-refused
returns-in_err-again_at-clause-refused g c =
    err_of _ _ _ c.from_residual.ensures.1
    (again_refused g.C.Chooser.chooses c.args.name.now c.args.call c.args.cluster.now c.args.asks_again c.args.chooser.now _
    c.if-not-asks_again.false c.requires.wanted c.in_err-again_at.ensures.cause)
