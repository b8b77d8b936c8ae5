-- Two sets with more than n members together, of n, have a member in common.
use Rattle.std.proofs.Common.{◌≡◌, ℕ, ◌+◌, ◌<◌, true, false, nat_eq, List, [], ◌∷◌, length, refl, sym, subst, ◌∙◌, inl, inr}
use Rattle.std.proofs.Common.{arith, eqb, eqb-true, ◌⊎◌}
use Rattle.std.specs.List.{AllByRecursion, IsDistinct, list_any}
use Rattle.std.proofs.lemmas.Bool.{or_cases, or_right}
use Rattle.std.proofs.lemmas.Bool.Decides.{nat_tests}
use Rattle.std.proofs.lemmas.Map.Keys.{IsDistinct-tail}
use Rattle.std.proofs.lemmas.Map.Steps.{length-le_from_distinct_below}
use Rattle.layout.specs.Quorum.{has}
use Rattle.layout.proofs.DistinctMemberLemmas.{has-head, distinct_cons}

below_at : (n : ℕ) (xs : List ℕ) → AllByRecursion (λ i. i < n) xs → (i : ℕ) → list_any (nat_eq i) xs ≡ true → i < n
below_at n [] below i there = absurd (cc)
below_at n (x ∷ xs) below i there = grind (arith, nat_tests, below.0, below_at n xs below.1 i)

has_here : (x : ℕ) (xs : List ℕ) → has (x ∷ xs) x ≡ true
has_here x xs = grind (arith, nat_tests)

pub members_meet : (n : ℕ) (xs ys : List ℕ) → IsDistinct nat_eq xs → IsDistinct nat_eq ys → AllByRecursion (λ i. i < n) ys →
    AllByRecursion (λ i. i < n) xs → n < length xs + length ys → (i : ℕ) × (has xs i ≡ true) × (has ys i ≡ true)
members_meet n [] ys first second below none many =
    absurd (let few = length-le_from_distinct_below ys n second (below_at n ys below) in omega arith)
members_meet n (x ∷ xs) ys first second below within many =
    elim (has ys x) as (λ b. has ys x ≡ b → (i : ℕ) × (has (x ∷ xs) i ≡ true) × (has ys i ≡ true)) [
      | true ↦ λ there. (x, has_here x xs, there)
      | false ↦ λ none.
          let met = members_meet n xs (x ∷ ys) (IsDistinct-tail nat_eq x xs first) (distinct_cons x ys none second)
          (within.0, below) within.1 (omega arith) in
          (met.0, or_right (eqb x met.0) (has xs met.0) met.1, other met.0 met.1 (or_cases (eqb x met.0) (has ys met.0) met.2))
    ] refl
  where
    other : (i : ℕ) → has xs i ≡ true → (eqb x i ≡ true) ⊎ (has ys i ≡ true) → has ys i ≡ true
    other i in_first (inl same) =
        let twice : has xs x ≡ true = subst (λ j. has xs j ≡ true) (sym (eqb-true x i same)) in_first in
        absurd (let clash : true ≡ false = sym twice ∙ has-head x xs first in cc)
    other i in_first (inr there) = there
