-- Keys in order are distinct where each is below the next.
use Rattle.std.proofs.Common.{◌≡◌, ℕ, ◌+◌, ◌<◌, Bool, true, false, List, [], ◌∷◌, length, get_or, refl, sym, ap, ◌∙◌, arith}
use Rattle.std.specs.Prelude.{not, ◌&&◌, ◌||◌}
use Rattle.std.specs.declared.cmp.Ordering.{Ordering}
use Rattle.std.specs.declared.cmp.Ordering.TheVariants.{Less, Equal, Greater}
use Rattle.std.specs.Ordering.{nat_cmp, ordering_then, ordering_reverse, is_lt, is_eq, eq_by_cmp}
use Rattle.std.specs.Cmp.{IsTotalOrder}
use Rattle.std.specs.List.{AllByRecursion, list_any, IsDistinct, IsAllAdjacentAnswer}
use Rattle.std.specs.List.Sorted.{IsPermutation, IsSorted}
use Rattle.std.proofs.lemmas.Bool.Decides.{nat_tests}
use Rattle.std.proofs.lemmas.Cmp.{eq_by_cmp_equiv, nat_cmp_total, on_total, then_total}
use Rattle.std.proofs.lemmas.List.Sorted.{IsPermutation-sym}
use Rattle.std.proofs.lemmas.Map.Keys.{IsDistinct-from_sorted, IsDistinct-IsPermutation, IsDistinct-head, IsDistinct-tail, IsDistinct-cons}
use Rattle.std.proofs.lemmas.Map.Keys.{apart_from_distinct, sorted_from_all_adjacent}
use Rattle.locked_steps.specs.Closing.{are_distinct, same_key}
use Rattle.locked_steps.proofs.FittingSeatLemmas.{and_true, not_true, or_false}

-- the order of keys, by object and then by call
abbrev pub key_cmp : ℕ × ℕ → ℕ × ℕ → Ordering
key_cmp x y = ordering_then (nat_cmp x.0 y.0) (nat_cmp x.1 y.1)

key_total : IsTotalOrder key_cmp
key_total = then_total (on_total (λ (t : ℕ × ℕ). t.0) nat_cmp_total) (on_total (λ (t : ℕ × ℕ). t.1) nat_cmp_total)

-- whether two keys tie
abbrev tie : ℕ × ℕ → ℕ × ℕ → Bool
tie = eq_by_cmp key_cmp

tie_same : (x y : ℕ × ℕ) → tie x y ≡ same_key y x
tie_same x y = grind (arith, nat_tests)

none_from : (k : ℕ × ℕ) (ks : List (ℕ × ℕ)) → AllByRecursion (λ y. tie k y ≡ false) ks → list_any (λ q. same_key q k) ks ≡ false
none_from k [] a = refl
none_from k (x ∷ xs) a = ap (λ b. b || list_any (λ q. same_key q k) xs) (sym (tie_same k x) ∙ a.0) ∙ none_from k xs a.1

none_to : (k : ℕ × ℕ) (ks : List (ℕ × ℕ)) → list_any (λ q. same_key q k) ks ≡ false → AllByRecursion (λ y. tie k y ≡ false) ks
none_to k [] h = tt
none_to k (x ∷ xs) h = let t = or_false (same_key x k) (list_any (λ q. same_key q k) xs) h in (tie_same k x ∙ t.0, none_to k xs t.1)

distinct_from : (ks : List (ℕ × ℕ)) → IsDistinct tie ks → are_distinct ks ≡ true
distinct_from [] d = refl
distinct_from (k ∷ ks) d =
    ap (λ b. not b && are_distinct ks) (none_from k ks (IsDistinct-head tie k ks d)) ∙ distinct_from ks (IsDistinct-tail tie k ks d)

distinct_to : (ks : List (ℕ × ℕ)) → are_distinct ks ≡ true → IsDistinct tie ks
distinct_to [] h = IsDistinct-from_sorted key_cmp [] (sorted_from_all_adjacent key_total [] (0, 0) (λ k less. absurd (omega arith)))
distinct_to (k ∷ ks) h =
    let t = and_true (not (list_any (λ q. same_key q k) ks)) (are_distinct ks) h in
    IsDistinct-cons tie k ks (none_to k ks (not_true _ t.0)) (distinct_to ks t.1)

distinct_moved : (xs ys : List (ℕ × ℕ)) → IsPermutation xs ys → IsDistinct tie xs → IsDistinct tie ys
distinct_moved = IsDistinct-IsPermutation tie (eq_by_cmp_equiv key_total).symm

is_below : (r : Ordering) → is_lt r ≡ true → r ≡ Less
is_below Less h = refl
is_below _ h = absurd (cc (h))

-- where neither of two is below the other, they tie
neither_below : (r s : Ordering) → s ≡ ordering_reverse r → is_lt r ≡ false → is_lt s ≡ false → is_eq r ≡ true
neither_below Less s t h k = absurd (cc (h))
neither_below Equal s t h k = refl
neither_below Greater s t h k = let e = sym k ∙ ap is_lt t in absurd (cc (e))

-- no neighbours of distinct keys tie
no_tie : (keys : List (ℕ × ℕ)) (k : ℕ) → IsSorted key_cmp keys → IsDistinct tie keys → k + 1 < length keys
    → is_lt (key_cmp (get_or keys k (0, 0)) (get_or keys (k + 1) (0, 0))) ≡ false → true ≡ false
no_tie keys k sorted distinct less not =
    let x = get_or keys k (0, 0) in
    let y = get_or keys (k + 1) (0, 0) in
    let same = neither_below (key_cmp x y) (key_cmp y x) (key_total.antisymm y x) not (sorted k (0, 0) (omega arith) less) in
    sym same ∙ apart_from_distinct tie keys k (k + 1) (0, 0) distinct (omega arith) less

-- keys are distinct where each is below the next once they are in order
pub distinct_in_order : (old new : List (ℕ × ℕ)) (b : Bool) → IsPermutation old new → IsSorted key_cmp new
    → IsAllAdjacentAnswer (λ x y b. b ≡ is_lt (key_cmp x y)) new b → b ≡ are_distinct old
distinct_in_order old new true moved sorted all =
    let rising = sorted_from_all_adjacent key_total new (0, 0) (λ k less. is_below _ (sym (all k (0, 0) less))) in
    sym (distinct_from old (distinct_moved new old (IsPermutation-sym old new moved) (IsDistinct-from_sorted key_cmp new rising)))
distinct_in_order old new false moved sorted some =
    pick (are_distinct old) (λ h. no_tie new some.0 sorted (distinct_moved old new moved (distinct_to old h)) some.1 (sym (some.2 (0, 0))))
  where
    pick : (b : Bool) → (b ≡ true → true ≡ false) → false ≡ b
    pick false e = refl
    pick true e = sym (e refl)
