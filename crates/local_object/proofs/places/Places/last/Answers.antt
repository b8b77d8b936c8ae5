use Rattle.std.proofs.Common.{List, IsSome, ap, sym, subst, ◌∙◌}
use Rattle.local_object.specs.Local.{Place, greatest_position, layout_in, heard_place}
use Rattle.local_object.proofs.PlaceLemmas.{each_known, greatest_known, layout_known}
use Rattle.local_object.proofs.places.Places.last.Goals as goal

pub returns-clause-known : goal.returns-clause-known
returns-clause-known c =
    let old = c.args.self.now in
    let first = subst (λ (ps : List Place). IsSome (heard_place ps 0)) c.self.view_is c.self.invariant.known in
    subst (λ n. IsSome (layout_in (heard_place old n)))
    (ap (λ (ps : List Place). greatest_position ps 0) (sym (c.deref.ensures.value ∙ c.self.view_is)) ∙ sym c.last_of.ensures)
    (greatest_known old 0 old (layout_known (heard_place old 0) first) (each_known old))
