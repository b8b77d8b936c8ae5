use Rattle.refinement.proofs.ClusterLemmas.{seen_atomic}
use Rattle.refinement.proofs.clusters.seen_histories_are_atomic.Goals as goal

pub returns : goal.returns
returns c = seen_atomic
