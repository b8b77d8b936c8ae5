use Rattle.std.proofs.Common.{◌≡◌, ◌++◌, ◌∷◌, [], rules}
use Rattle.soak.proofs.MadeCallLemmas.{all_popped, all_pushed}
use Rattle.soak.proofs.crew.end_all.Goals as goal

pub loop-client-preserved : goal.loop-client-preserved
loop-client-preserved g c = λ calls given.
    let was = c.loop-client.invariant calls given in
    let popped : c.loop-client.started.items ≡ c.pop.new.self.items ++ c.in-Some.client ∷ [] = search rules in
    let pushed : c.push.new.self.items ≡ c.loop-client.seats.items ++ c.in_ok-end_of.field-0 ∷ [] = search rules in
    let rest = all_popped _ _ _ _ popped was.0 in
    (rest.0, all_pushed _ _ _ _ pushed was.1 (c.in_ok-end_of.ensures calls rest.1))

pub returns : goal.returns
returns g c = λ calls given. (c.loop-client.invariant calls given).1
