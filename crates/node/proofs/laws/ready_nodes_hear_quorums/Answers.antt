use Rattle.node.proofs.ReadyLemmas.{ready_hears}
use Rattle.node.proofs.laws.ready_nodes_hear_quorums.Goals as goal

pub returns : goal.returns
returns c = ready_hears
