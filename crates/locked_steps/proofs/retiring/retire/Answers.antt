use Rattle.std.proofs.Common.{refl}
use Rattle.record.specs.Steps.{Step}
use Rattle.locked_steps.proofs.ReachableLemmas.{goes_on_both}
use Rattle.locked_steps.proofs.RoundLemmas.{kept_both}
use Rattle.locked_steps.proofs.retiring.retire.Goals as goal

pub returns-clause-count : goal.returns-clause-count
returns-clause-count c =
    kept_both c.retire.result c.args.cluster.now c.retire.new.self c.args.name.now Step.Retire refl c.retire.ensures.step
    c.retire.ensures.unchanged

pub returns-clause-course : goal.returns-clause-course
returns-clause-course c =
    goes_on_both c.retire.result c.args.cluster.now c.retire.new.self c.args.name.now Step.Retire c.retire.ensures.may
    c.retire.ensures.step c.retire.ensures.unchanged
