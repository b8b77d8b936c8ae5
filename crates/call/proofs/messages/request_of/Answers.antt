use Rattle.std.proofs.Common.{rules}
use Rattle.call.proofs.messages.request_of.Goals as goal

pub returns-in_ok-clone-in-PreWrite-Some-clause-request : goal.returns-in_ok-clone-in-PreWrite-Some-clause-request
returns-in_ok-clone-in-PreWrite-Some-clause-request c = search rules
