use Rattle.std.proofs.Common.{ap, sym, ◌∙◌}
use Rattle.cluster.specs.Cluster.{Cluster, named}
use Rattle.cluster.proofs.LookupLemmas.{named_at}
use Rattle.cluster.proofs.NamedObjectPlaceLemmas.{object_is_at, index_within}
use Rattle.cluster.proofs.cluster.Cluster.register_at.Goals as goal

pub index-requires : goal.index-requires
index-requires c =
    index_within c.self.inside.objects.entries c.args._name.now c.args.object c.self.view_is c.requires

pub returns : goal.returns
returns c =
    let at = object_is_at _ _ _ c.self.view_is _ c.requires c.index.ensures in
    ap (λ (k : Cluster). named k.objects c.args._name.now) (sym c.self.view_is) ∙ named_at at
