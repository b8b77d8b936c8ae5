use Rattle.std.proofs.Common.{List, ℕ, Option, MatchOption, subst}
use Rattle.local_object.specs.EarlyEnds.{CanEndEarly}
use Rattle.local_object.proofs.EarlyCallLemmas.{ended_if}
use Rattle.local_object.proofs.local_object.LocalObject.end_early.Goals as goal

pub returns-in_ok-ended-in-Some-clause-done : goal.returns-in_ok-ended-in-Some-clause-done
returns-in_ok-ended-in-Some-clause-done c =
    let old = c.args.self.now in
    let id = c.args.id in
    let can = subst (λ o. MatchOption o ((r : Option (List ℕ)) → CanEndEarly old id r → ⊥) (CanEndEarly old id)) c.in-Some.is
    c.in_ok-returned.ensures.value in
    ended_if old id c.in-Some.returned can c.end.new.self c.in_ok-ended-in-Some.ensures.local c.in_ok-ended-in-Some.ended
    c.in_ok-ended-in-Some.ensures.told
