use Rattle.std.proofs.Common.{rules}
use Rattle.locked_steps.proofs.retiring.retire_in.Goals as goal

pub returns-in_err-freed-clause-cause : goal.returns-in_err-freed-clause-cause
returns-in_err-freed-clause-cause g c = search rules
