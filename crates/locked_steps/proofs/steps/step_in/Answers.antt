use Rattle.std.proofs.Common.{rules, tests}
use Rattle.locked_steps.proofs.steps.step_in.Goals as goal

pub returns-clause-cause : goal.returns-clause-cause
returns-clause-cause g c = search (rules, tests)
