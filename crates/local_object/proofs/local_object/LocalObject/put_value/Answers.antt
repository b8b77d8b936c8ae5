use Rattle.std.proofs.Common.{◌≡◌, ap, subst, ◌∙◌}
use Rattle.local_object.specs.Going.{settled_here}
use Rattle.local_object.specs.Local.{LocalObject}
use Rattle.local_object.proofs.OpenLemmas.{object, settled_is, settled_none}
use Rattle.local_object.proofs.local_object.LocalObject.put_value.Goals as goal

pub returns-in-Some : goal.returns-in-Some
returns-in-Some c =
    let o = c.self.inside in
    let at = c.in-Some.ensures.index in
    ap (object o.node o.delta o.start o.reports o.places) (c.settle.ensures at.call at.there)
    ∙ settled_is o.node o.delta o.start o.reports o.places c.in-Some.ensures.distinct at c.args.value
    ∙ ap (λ (l : LocalObject). (settled_here l c.args.id c.args.value).local) c.self.view_is

pub returns-in-None : goal.returns-in-None
returns-in-None c =
    let o = c.self.inside in
    subst (λ (l : LocalObject). l ≡ (settled_here l c.args.id c.args.value).local) c.self.view_is
    (settled_none o.node o.delta o.start o.reports o.places o.calls c.args.id c.args.value c.in-None.ensures.index)
