use Rattle.std.proofs.Common.{length, sym, ap, ◌∙◌}
use Rattle.cluster.specs.Accounts.{stored_all}
use Rattle.cluster.specs.Cluster.{Cluster}
use Rattle.cluster.proofs.LookupLemmas.{objects_of}
use Rattle.cluster.proofs.ServerTotalLemmas.{objects_total}
use Rattle.cluster.proofs.cluster.Cluster.stored_all.Goals as goal

pub returns-clause-value : goal.returns-clause-value
returns-clause-value c =
    c.self.invariant.kept.stored
    ∙ sym (objects_total (length c.self.inside.servers) c.self.inside.counter
    (objects_of c.self.inside.objects.entries) c.self.invariant.kept.objects)
    ∙ ap (λ (k : Cluster). stored_all k) c.self.view_is
