use Rattle.std.proofs.Common.{bytes_eq, sym, ap, ◌∙◌}
use Rattle.cluster.proofs.NamedObjectPlaceLemmas.{named_here}
use Rattle.cluster.proofs.cluster.Cluster.is_named_at.Goals as goal

pub returns-in-Some : goal.returns-in-Some
returns-in-Some c is =
    named_here c.self.inside.objects.entries c.args.name.now c.args.object c.self.view_is c.self.invariant.kept
    (c.in-Some.key.now, c.in-Some.field-0-1.now) c.in-Some.ensures.entry
    (ap (λ t. bytes_eq c.args.name.now t) (sym c.as_str.ensures.value) ∙ sym c.eq.ensures ∙ is)
