-- Two quorums share k members: what they have in common is what their lengths together are above n.
use Rattle.std.proofs.Common.{◌≡◌, ℕ, suc, ◌+◌, ◌<◌, ◌≤◌, Bool, true, false, cond, IsTrue, nat_eq, List, [], ◌∷◌, length, arith, le_trans}
use Rattle.std.proofs.Common.{eq-eqb, get_or, refl}
use Rattle.std.specs.List.{AllByRecursion, All, IsDistinct, list_any, filter}
use Rattle.std.proofs.lemmas.Bool.{cond_both}
use Rattle.std.proofs.lemmas.Bool.Decides.{nat_tests}
use Rattle.std.proofs.lemmas.List.Elements.{All-filter, filter_passes, recursion_from_All}
use Rattle.std.proofs.lemmas.List.Folds.{list_any_at}
use Rattle.std.proofs.lemmas.Map.Keys.{IsDistinct-tail}
use Rattle.std.proofs.lemmas.Map.Steps.{length-le_from_distinct_below}
use Rattle.layout.specs.Layout.{Layout}
use Rattle.layout.specs.Quorum.{has, IsQuorum, Share}
use Rattle.layout.proofs.DistinctMemberLemmas.{has-head, distinct_cons}

-- those of xs that are not among ys, and then ys
abbrev joined : List ℕ → List ℕ → List ℕ
joined [] ys = ys
joined (x ∷ xs) ys = cond (has ys x) (joined xs ys) (x ∷ joined xs ys)

has-joined : (xs ys : List ℕ) (i : ℕ) → has xs i ≡ false → has ys i ≡ false → has (joined xs ys) i ≡ false
has-joined [] ys i none_first none_second = none_second
has-joined (x ∷ xs) ys i none_first none_second =
    let rest = has-joined xs ys i (grind (arith, nat_tests)) none_second in
    cond_both (has ys x) (joined xs ys) (x ∷ joined xs ys) (λ zs. has zs i ≡ false) (λ _. rest) (λ _. grind (arith, nat_tests, rest))

joined_distinct : (xs ys : List ℕ) → IsDistinct nat_eq xs → IsDistinct nat_eq ys → IsDistinct nat_eq (joined xs ys)
joined_distinct [] ys first second = second
joined_distinct (x ∷ xs) ys first second =
    let rest = joined_distinct xs ys (IsDistinct-tail nat_eq x xs first) second in
    cond_both (has ys x) (joined xs ys) (x ∷ joined xs ys) (λ zs. IsDistinct nat_eq zs) (λ _. rest)
    (λ none. distinct_cons x (joined xs ys) (has-joined xs ys x (has-head x xs first) none) rest)

joined_within : (n : ℕ) (xs ys : List ℕ) → AllByRecursion (λ i. i < n) xs → AllByRecursion (λ i. i < n) ys →
    AllByRecursion (λ i. i < n) (joined xs ys)
joined_within n [] ys first second = second
joined_within n (x ∷ xs) ys first second =
    let rest = joined_within n xs ys first.1 second in
    cond_both (has ys x) (joined xs ys) (x ∷ joined xs ys) (λ zs. AllByRecursion (λ i. i < n) zs) (λ _. rest) (λ _. (first.0, rest))

length-joined : (xs ys : List ℕ) → length (joined xs ys) + length (filter (has ys) xs) ≡ length xs + length ys
length-joined [] ys = omega arith
length-joined (x ∷ xs) ys =
    let rest = length-joined xs ys in
    elim (has ys x) as (λ b. length (cond b (joined xs ys) (x ∷ joined xs ys))
    + length (cond b (x ∷ filter (has ys) xs) (filter (has ys) xs))
    ≡ suc (length xs) + length ys) [
      | true ↦ omega arith
      | false ↦ omega arith
    ]

below_at : (n : ℕ) (xs : List ℕ) → AllByRecursion (λ i. i < n) xs → (i : ℕ) → list_any (nat_eq i) xs ≡ true → i < n
below_at n [] below i there = absurd (cc)
below_at n (x ∷ xs) below i there = grind (arith, nat_tests, below.0, below_at n xs below.1 i)

has-filter : (p : ℕ → Bool) (xs : List ℕ) (i : ℕ) → has xs i ≡ false → has (filter p xs) i ≡ false
has-filter p [] i none = none
has-filter p (x ∷ xs) i none =
    let rest = has-filter p xs i (grind (arith, nat_tests)) in
    cond_both (p x) (x ∷ filter p xs) (filter p xs) (λ zs. has zs i ≡ false) (λ _. grind (arith, nat_tests, rest)) (λ _. rest)

filter_distinct : (p : ℕ → Bool) (xs : List ℕ) → IsDistinct nat_eq xs → IsDistinct nat_eq (filter p xs)
filter_distinct p [] distinct = distinct
filter_distinct p (x ∷ xs) distinct =
    let rest = filter_distinct p xs (IsDistinct-tail nat_eq x xs distinct) in
    cond_both (p x) (x ∷ filter p xs) (filter p xs) (λ zs. IsDistinct nat_eq zs)
    (λ _. distinct_cons x (filter p xs) (has-filter p xs x (has-head x xs distinct)) rest) (λ _. rest)

has_each : (xs : List ℕ) → All (λ i. has xs i ≡ true) xs
has_each xs k d within = let x = get_or xs k d in list_any_at (λ j. nat_eq j x) xs k d within (eq-eqb x x refl)

-- any two quorums of a layout share k members
pub quorums_share : (layout : Layout) (xs ys : List ℕ) → IsQuorum layout xs → IsQuorum layout ys → Share xs ys layout.k
quorums_share layout xs ys p q =
    let n = length layout.members in
    let fits : length (joined xs ys) ≤ n = length-le_from_distinct_below (joined xs ys) n
    (joined_distinct xs ys p.distinct q.distinct) (below_at n (joined xs ys) (joined_within n xs ys p.within q.within)) in
    record {
      members = filter (has ys) xs;
      distinct = filter_distinct (has ys) xs p.distinct;
      in_first = recursion_from_All (λ i. has xs i ≡ true) (filter (has ys) xs)
          (All-filter (has ys) (λ i. has xs i ≡ true) xs (has_each xs));
      in_second = recursion_from_All (λ i. has ys i ≡ true) (filter (has ys) xs) (filter_passes (has ys) xs);
      enough = omega (arith, p.enough, q.enough, length-joined xs ys);
    }

-- so some member is in both
pub quorums_meet : (layout : Layout) (xs ys : List ℕ) → 1 ≤ layout.k → IsQuorum layout xs → IsQuorum layout ys →
    (i : ℕ) × IsTrue (has xs i) × IsTrue (has ys i)
quorums_meet layout xs ys some p q =
    let share = quorums_share layout xs ys p q in
    first share.members share.in_first share.in_second (le_trans some share.enough)
  where
    first : (zs : List ℕ) → AllByRecursion (λ i. has xs i ≡ true) zs → AllByRecursion (λ i. has ys i ≡ true) zs → 1 ≤ length zs →
        (i : ℕ) × IsTrue (has xs i) × IsTrue (has ys i)
    first [] in_first in_second some = absurd (omega arith)
    first (z ∷ zs) in_first in_second some = (z, in_first.0, in_second.0)
