use Rattle.node.proofs.IdsLeftLemmas as left
use Rattle.node.proofs.laws.nodes_run_out_of_ids.Goals as goal

pub returns : goal.returns
returns c = left.run_out
