use Rattle.refinement.proofs.ClusterLemmas.{atomic_clusters}
use Rattle.refinement.proofs.clusters.clusters_are_atomic.Goals as goal

pub returns : goal.returns
returns c = atomic_clusters
