use Rattle.std.proofs.Common.{List, IsSome, sym, subst}
use Rattle.local_object.specs.Local.{Place, heard_place, layout_in}
use Rattle.local_object.proofs.PlaceLemmas.{known_push, known_pushed}
use Rattle.local_object.proofs.places.Places.learn.Goals as goal

pub invariant_of-self-in-None : goal.invariant_of-self-in-None
invariant_of-self-in-None c = record {
  known = subst (λ (ps : List Place). IsSome (heard_place ps 0)) (sym c.in_ok-push-in-None.ensures.items)
      (known_push 0 c.self.inside.places.items c.new.result c.self.invariant.known);
}

pub returns-in_ok-push-in-None-clause-start : goal.returns-in_ok-push-in-None-clause-start
returns-in_ok-push-in-None-clause-start c = λ start knows. record {
  known = subst (λ (ps : List Place). IsSome (layout_in (heard_place ps start))) (sym c.in_ok-push-in-None.ensures.items)
      (known_pushed c.self.inside.places.items c.new.result start
      (subst (λ (ps : List Place). IsSome (layout_in (heard_place ps start))) (sym c.self.view_is) knows.known));
  small = knows.small;
}
