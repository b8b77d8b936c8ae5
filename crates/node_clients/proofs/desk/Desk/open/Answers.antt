use Rattle.std.proofs.Common.{rules}
use Rattle.node_clients.proofs.desk.Desk.open.Goals as goal

pub returns-in-Ok-clause-opened : goal.returns-in-Ok-clause-opened
returns-in-Ok-clause-opened c = search rules
