use Rattle.std.proofs.Common.{rules}
use Rattle.call.proofs.call.Call.settle.Goals as goal

pub returns : goal.returns
returns c = search rules
