use Rattle.std.proofs.Common.{rules}
use Rattle.register.proofs.register.Register.call_read.Goals as goal

pub returns-clause-step : goal.returns-clause-step
returns-clause-step c = search rules
