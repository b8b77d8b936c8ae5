use Rattle.std.proofs.Common.{rules}
use Rattle.register.proofs.tracked_call.TrackedCall.settle.Goals as goal

pub returns : goal.returns
returns c = search rules
