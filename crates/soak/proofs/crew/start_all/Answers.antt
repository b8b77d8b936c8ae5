use Rattle.std.proofs.Common.{◌≡◌, ◌++◌, ◌∷◌, [], rules}
use Rattle.soak.proofs.MadeCallLemmas.{all_popped, all_pushed}
use Rattle.soak.proofs.crew.start_all.Goals as goal

pub loop-seat-preserved : goal.loop-seat-preserved
loop-seat-preserved g c =
    let popped : c.loop-seat.seats.items ≡ c.pop.new.self.items ++ c.in-Some.seat ∷ [] = search rules in
    let pushed : c.push.new.self.items ≡ c.loop-seat.started.items ++ c.start_calls.result ∷ [] = search rules in (
      (all_popped _ _ _ _ popped c.loop-seat.invariant.0).0,
      all_pushed _ _ _ _ pushed c.loop-seat.invariant.1 c.start_calls.ensures,
    )
