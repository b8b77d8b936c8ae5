use Rattle.cluster_file.proofs.FirstNodesLemmas.{placed-AreFirst}
use Rattle.cluster_file.proofs.placement_laws.placed_are_first.Goals as goal

pub returns : goal.returns
returns c = placed-AreFirst
