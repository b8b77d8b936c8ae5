use Rattle.std.proofs.Common.{List, ℕ, Option, MatchOption, IfOk, sym, subst}
use Rattle.local_object.specs.EarlyEnds.{IsHeldValue}
use Rattle.local_object.proofs.EarlyEndLemmas.{read_operation}
use Rattle.local_object.proofs.early.held_value.Goals as goal

pub returns-in-Read-clause-value : goal.returns-in-Read-clause-value
returns-in-Read-clause-value c =
    let places = c.args.places.now in
    let call = c.args.call.now in
    subst (λ k. IfOk c.read_value.result (λ value. MatchOption value ((r : Option (List ℕ)) → IsHeldValue places call k r → ⊥)
    (IsHeldValue places call k)))
    (sym (read_operation call.kind c.in-Read.ensures)) c.read_value.ensures.value
