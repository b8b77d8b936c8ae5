use Rattle.std.proofs.Common.{rules}
use Rattle.node.proofs.node.Node.is_from_cluster.Goals as goal

pub returns-then-has_node : goal.returns-then-has_node
returns-then-has_node c = search rules
