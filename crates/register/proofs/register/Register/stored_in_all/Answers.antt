use Rattle.std.proofs.Common.{rules}
use Rattle.register.proofs.register.Register.stored_in_all.Goals as goal

pub returns-clause-value : goal.returns-clause-value
returns-clause-value c = search rules
