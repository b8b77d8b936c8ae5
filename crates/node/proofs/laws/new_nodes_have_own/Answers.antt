use Rattle.node.proofs.AnewLemmas.{new_nodes}
use Rattle.node.proofs.laws.new_nodes_have_own.Goals as goal

pub returns : goal.returns
returns c = new_nodes
