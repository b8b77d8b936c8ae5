use Rattle.refinement.proofs.ClusterLemmas.{valued_clusters}
use Rattle.refinement.proofs.clusters.clusters_keep_values.Goals as goal

pub returns : goal.returns
returns c = valued_clusters
