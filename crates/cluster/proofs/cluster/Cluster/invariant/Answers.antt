use Rattle.std.proofs.Common.{subst}
use Rattle.cluster.specs.Cluster.{Cluster}
use Rattle.cluster.specs.Kept.{IsKeptCluster}
use Rattle.cluster.proofs.cluster.Cluster.invariant.Goals as goal

pub returns : goal.returns
returns c = (
  c.self.inside.stored,
  (
    c.self.inside.called,
    subst (λ (k : Cluster). IsKeptCluster k c.self.inside.stored c.self.inside.called) c.self.view_is c.self.invariant.kept,
  ),
)
