use Rattle.std.proofs.Common.{◌<◌, ap, sym, subst, ◌∙◌}
use Rattle.std.specs.Map.{values_of}
use Rattle.register.proofs.ListLemmas.{found, length_map}
use Rattle.cluster.specs.Cluster.{Cluster, named}
use Rattle.cluster.proofs.LookupLemmas.{Entry, at_place, named_none}
use Rattle.cluster.proofs.NamedObjectPlaceLemmas.{at_object}
use Rattle.cluster.proofs.cluster.Cluster.find.Goals as goal

pub returns-in-Some : goal.returns-in-Some
returns-in-Some c =
    let entries = c.self.inside.objects.entries in
    let there = found (values_of entries) c.in-Some.place
    (subst (λ n. c.in-Some.place < n) (sym (length_map (λ (e : Entry). e.1) entries)) c.in-Some.ensures.within) in
    let at = at_place entries c.args.name.now c.in-Some.place there.0 c.in-Some.ensures.index there.1 in
    at_object entries c.args.name.now c.in-Some.place c.self.view_is at c.in-Some.ensures.within

pub returns-in-None : goal.returns-in-None
returns-in-None c =
    ap (λ (k : Cluster). named k.objects c.args.name.now) (sym c.self.view_is)
    ∙ named_none c.self.inside.objects.entries c.args.name.now c.in-None.ensures.found
