use Rattle.std.proofs.Common.{◌≡◌, List, ℕ, None, MatchOption, ap, sym, subst, ◌∙◌}
use Rattle.record.specs.Sending.{sent_value}
use Rattle.local_object.specs.EarlyEnds.{IsReadValue}
use Rattle.local_object.specs.Going.{IsFetchedValue}
use Rattle.local_object.proofs.early.read_value.Goals as goal

pub returns-in-None-clause-value : goal.returns-in-None-clause-value
returns-in-None-clause-value c = λ r is.
    let places = c.args.places.now in
    let call = c.args.call.now in
    let unsettled : call.settled ≡ None = sym (c.in_default.ensures ∙ ap (λ k. sent_value k call.settled) c.requires) in
    let none = subst (λ o. MatchOption o ((v : List ℕ) → IsFetchedValue places call v → ⊥) (IsFetchedValue places call)) c.in-None.is
    c.in_ok-value.ensures.value in
    none is.0 (subst (λ s. IsReadValue places call s is.0) unsettled is.2).1
