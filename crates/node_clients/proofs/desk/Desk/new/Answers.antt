use Rattle.std.proofs.Common.{rules}
use Rattle.node_clients.proofs.desk.Desk.new.Goals as goal

pub returns-clause-counts : goal.returns-clause-counts
returns-clause-counts c = search rules
