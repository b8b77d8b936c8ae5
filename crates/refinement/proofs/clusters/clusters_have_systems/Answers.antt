use Rattle.refinement.proofs.ClusterLemmas.{have_systems}
use Rattle.refinement.proofs.clusters.clusters_have_systems.Goals as goal

pub returns : goal.returns
returns c = have_systems
