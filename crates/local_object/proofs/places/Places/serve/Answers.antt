use Rattle.std.proofs.Common.{◌≡◌, List, Option, IfOk, IsSome, ap, set, sym, subst, ◌∙◌}
use Rattle.std.proofs.lemmas.Result.{on_ok_weaker}
use Rattle.local_object.specs.declared.kept_bank.KeptBank.{KeptBank}
use Rattle.local_object.specs.ChangedBanks.{kept_bank}
use Rattle.local_object.specs.KeptBanks.{kept_reply}
use Rattle.local_object.specs.Local.{Place, bank_in, bank_or_opened, heard_place, layout_in, with_bank_here}
use Rattle.local_object.proofs.PlaceLemmas.{bank_is, bank_put, known_set, layout_known, place_known, there_at}
use Rattle.local_object.proofs.places.Places.serve.Goals as goal

pub invariant_of-self : goal.invariant_of-self
invariant_of-self c = record {
  known = known_set 0 c.self.inside.places.items c.in-Some.index c.index_mut.result.now c.serve.new.self
      (there_at c.deref.ensures.value c.self.view_is c.in-Some.ensures c.index_mut.ensures.value) c.serve.ensures.same
      c.self.invariant.known;
}

pub returns-clause-places : goal.returns-clause-places
returns-clause-places c =
    let kept : Option KeptBank → Option KeptBank = λ o. kept_bank o c.args.member c.args.delta c.args.request.now in
    on_ok_weaker c.serve.result
    (λ made. bank_put c.deref.ensures.value c.self.view_is c.in-Some.ensures c.index_mut.ensures.value kept c.serve.new.self made
    ∙ ap (λ n. with_bank_here c.args.self.now n (kept (bank_in (heard_place c.args.self.now n)))) c.from.ensures)
    c.serve.ensures.bank

pub returns-clause-reply : goal.returns-clause-reply
returns-clause-reply c =
    subst (λ o. IfOk c.serve.result (λ r. r ≡ kept_reply (bank_or_opened o c.args.member c.args.delta) c.args.request.now))
    (bank_is c.deref.ensures.value c.self.view_is c.in-Some.ensures c.index_mut.ensures.value
    ∙ ap (λ n. bank_in (heard_place c.args.self.now n)) c.from.ensures)
    c.serve.ensures.reply

pub returns-clause-start : goal.returns-clause-start
returns-clause-start c = λ start knows. record {
  known = layout_known (heard_place (set c.self.inside.places.items c.in-Some.index c.serve.new.self) start)
      (known_set start c.self.inside.places.items c.in-Some.index c.index_mut.result.now c.serve.new.self
      (there_at c.deref.ensures.value c.self.view_is c.in-Some.ensures c.index_mut.ensures.value) c.serve.ensures.same
      (place_known (heard_place c.self.inside.places.items start)
      (subst (λ (ps : List Place). IsSome (layout_in (heard_place ps start))) (sym c.self.view_is) knows.known)));
  small = knows.small;
}
