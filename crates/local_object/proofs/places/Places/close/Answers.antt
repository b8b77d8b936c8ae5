use Rattle.std.proofs.Common.{List, IsSome, ap, set, sym, subst, ◌∙◌}
use Rattle.local_object.specs.KeptBanks.{after_closing}
use Rattle.local_object.specs.Local.{Place, bank_in, heard_place, layout_in, with_bank_here}
use Rattle.local_object.proofs.PlaceLemmas.{bank_put, known_set, layout_known, place_known, there_at}
use Rattle.local_object.proofs.places.Places.close.Goals as goal

pub invariant_of-self : goal.invariant_of-self
invariant_of-self c = record {
  known = known_set 0 c.self.inside.places.items c.in-Some.index c.index_mut.result.now c.close.new.self
      (there_at c.deref.ensures.value c.self.view_is c.in-Some.ensures c.index_mut.ensures.value) c.close.ensures.same
      c.self.invariant.known;
}

pub returns-clause-places : goal.returns-clause-places
returns-clause-places c =
    bank_put c.deref.ensures.value c.self.view_is c.in-Some.ensures c.index_mut.ensures.value after_closing c.close.new.self
    c.close.ensures.bank
    ∙ ap (λ n. with_bank_here c.args.self.now n (after_closing (bank_in (heard_place c.args.self.now n)))) c.from.ensures

pub returns-clause-start : goal.returns-clause-start
returns-clause-start c = λ start knows. record {
  known = layout_known (heard_place (set c.self.inside.places.items c.in-Some.index c.close.new.self) start)
      (known_set start c.self.inside.places.items c.in-Some.index c.index_mut.result.now c.close.new.self
      (there_at c.deref.ensures.value c.self.view_is c.in-Some.ensures c.index_mut.ensures.value) c.close.ensures.same
      (place_known (heard_place c.self.inside.places.items start)
      (subst (λ (ps : List Place). IsSome (layout_in (heard_place ps start))) (sym c.self.view_is) knows.known)));
  small = knows.small;
}
