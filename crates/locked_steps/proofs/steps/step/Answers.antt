use Rattle.locked_steps.proofs.ReachableLemmas.{goes_on_step_both}
use Rattle.locked_steps.proofs.RoundLemmas.{counted_step_both}
use Rattle.locked_steps.proofs.steps.step.Goals as goal

pub returns-clause-count : goal.returns-clause-count
returns-clause-count g c =
    counted_step_both g.C.Chooser.chooses c.args.name.now c.args.call c.make_step_at.result c.args.cluster.now c.args.chooser.now
    c.make_step_at.new.cluster c.make_step_at.new.chooser c.make_step_at.ensures.step c.make_step_at.ensures.unchanged

pub returns-clause-course : goal.returns-clause-course
returns-clause-course g c =
    goes_on_step_both g.C.Chooser.chooses c.args.name.now c.args.call c.make_step_at.result c.args.cluster.now c.args.chooser.now
    c.make_step_at.new.cluster c.make_step_at.new.chooser c.make_step_at.ensures.step c.make_step_at.ensures.unchanged
