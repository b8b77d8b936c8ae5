use Rattle.std.proofs.Common.{◌∷◌, [], Some, MatchOption, List, ℕ, inl, inr, refl, sym, subst}
use Rattle.open_calls.specs.OpenCalls.{open_call, with_open}
use Rattle.local_object.specs.Events.{LocalEvent}
use Rattle.local_object.specs.Taking.{CanSettle}
use Rattle.local_object.proofs.DoneLemmas.{by_none, by_one}
use Rattle.local_object.proofs.OpenLemmas.{silent_sent}
use Rattle.local_object.proofs.SettleLemmas.{settle_may}
use Rattle.local_object.proofs.local_object.LocalObject.settle.Goals as goal

pub returns-in_default-clause-done : goal.returns-in_default-clause-done
returns-in_default-clause-done c =
    let old = c.args.self.now in
    let id = c.args.id in
    let none = subst (λ o. MatchOption o ((v : List ℕ) → CanSettle old id v → ⊥) (CanSettle old id)) c.in_default.is
    c.in_ok-value.ensures.value in
    record { events = []; settles = inl (refl, none); done = by_none old old [] [] refl refl refl }

pub returns-clause-done : goal.returns-clause-done
returns-clause-done c =
    let old = c.args.self.now in
    let id = c.args.id in
    let value = c.in-Some.value in
    let can = subst (λ o. MatchOption o ((v : List ℕ) → CanSettle old id v → ⊥) (CanSettle old id)) c.in-Some.is
    c.in_ok-value.ensures.value in record {
      events = LocalEvent.Settle id value ∷ [];
      settles = inr (value, can, refl);
      done = by_one old (LocalEvent.Settle id value) c.put_value.new.self [] [] (settle_may old id value can) c.put_value.ensures
          (sym (silent_sent old (open_call old.calls id)
          (λ call. record old { calls = with_open (record call { settled = Some value }) old.calls }))) refl;
    }
