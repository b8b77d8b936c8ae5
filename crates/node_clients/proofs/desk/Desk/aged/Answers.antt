use Rattle.std.proofs.Common.{rules}
use Rattle.node_clients.proofs.desk.Desk.aged.Goals as goal

pub returns-in_ok-grow_older-in-Some-clause-aged : goal.returns-in_ok-grow_older-in-Some-clause-aged
returns-in_ok-grow_older-in-Some-clause-aged c = search rules
