-- A list in two parts, the first of which is so long; and events beside events that change nothing.
use Rattle.std.proofs.Common.{◌≡◌, ℕ, zero, suc, ◌≤◌, List, [], ◌∷◌, ◌++◌, length, map, refl, sym, ap, ◌∙◌, arith}
use Rattle.std.specs.List.{AllByRecursion}
use Rattle.open_calls.specs.OpenCalls.{NodeCall}
use Rattle.network.specs.Worlds.{World}
use Rattle.network.specs.Events.{Event}
use Rattle.told_queries.specs.Courses.{AreWaits}
use Rattle.told_queries.proofs.BesideEventLemmas.{beside_event}

-- the list is these two parts, the first of which is so long
pub record IsCut {A : Type 0} (xs : List A) (n : ℕ) : Type 0 where
  pub first : List A
  pub second : List A
  pub split : xs ≡ first ++ second
  pub long : length first ≡ n

pub cut : {A : Type 0} (n : ℕ) (xs : List A) → n ≤ length xs → IsCut xs n
cut zero xs few = record { first = []; second = xs; split = refl; long = refl }
cut (suc n) [] few = absurd (omega (arith, few))
cut (suc n) (x ∷ xs) few =
    let rest = cut n xs (omega (arith, few)) in
    record { first = x ∷ rest.first; second = rest.second; split = ap (λ l. x ∷ l) rest.split; long = ap suc rest.long }

pub all_first : {A : Type 0} (P : A → Type 0) (first second : List A) → AllByRecursion P (first ++ second) → AllByRecursion P first
all_first P [] second all = tt
all_first P (x ∷ first) second all = (all.0, all_first P first second all.1)

-- events that change nothing have themselves beside them
pub waits_same : (asking : NodeCall) (world : World) (events : List Event) → AreWaits world events →
    map (beside_event asking) events ≡ events
waits_same asking world [] are = refl
waits_same asking world (event ∷ events) are =
    ap (λ e. beside_event asking e ∷ map (beside_event asking) events) are.0.1
    ∙ ap (λ e. e ∷ map (beside_event asking) events) (sym are.0.1)
    ∙ ap (λ l. event ∷ l) (waits_same asking world events are.1)
