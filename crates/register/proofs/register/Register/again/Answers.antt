use Rattle.std.proofs.Common.{rules}
use Rattle.register.proofs.register.Register.again.Goals as goal

pub returns-clause-cause : goal.returns-clause-cause
returns-clause-cause c = search rules
