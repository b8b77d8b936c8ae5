use Rattle.std.proofs.Common.{rules}
use Rattle.call.proofs.call.Call.take.Goals as goal

pub returns-clause-call : goal.returns-clause-call
returns-clause-call c = search rules
