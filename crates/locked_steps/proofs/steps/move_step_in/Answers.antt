use Rattle.std.proofs.Common.{rules}
use Rattle.locked_steps.proofs.steps.move_step_in.Goals as goal

pub returns-clause-steps : goal.returns-clause-steps
returns-clause-steps g c = search rules
