use Rattle.std.proofs.Common.{rules}
use Rattle.driver.specs.Choices.{handling_cause}
use Rattle.driver.proofs.ObjectIndexLemmas.{missing_by, missing_cause}
use Rattle.driver.proofs.messages.handle.Goals as goal

pub returns-in_err-object-clause-cause : goal.returns-in_err-object-clause-cause
returns-in_err-object-clause-cause c =
    missing_by _ _ _ c.from_residual.ensures.1
    (missing_cause c.args.cluster.now c.args.name.now c.in_err-object.field-0.0 c.in_err-object.ensures.cause
    (handling_cause c.args.cluster.now c.args.place))

pub returns-clause-step : goal.returns-clause-step
returns-clause-step c = search rules
