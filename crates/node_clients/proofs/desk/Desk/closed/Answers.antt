use Rattle.std.proofs.Common.{rules}
use Rattle.node_clients.proofs.desk.Desk.closed.Goals as goal

pub returns-in-Some-clause-client : goal.returns-in-Some-clause-client
returns-in-Some-clause-client c = search rules
