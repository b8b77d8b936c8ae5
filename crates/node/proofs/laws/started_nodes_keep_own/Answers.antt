use Rattle.node.proofs.AnewLemmas.{started_nodes}
use Rattle.node.proofs.laws.started_nodes_keep_own.Goals as goal

pub returns : goal.returns
returns c = started_nodes
