use Rattle.std.proofs.Common.{rules}
use Rattle.node.proofs.node.Node.recover_cluster.Goals as goal

pub returns-then-number-clause-refused : goal.returns-then-number-clause-refused
returns-then-number-clause-refused c = search rules
