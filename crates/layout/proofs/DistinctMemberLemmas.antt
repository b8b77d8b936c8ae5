-- Lists of members without repeats.
use Rattle.std.proofs.Common.{◌≡◌, ℕ, ◌+◌, ◌≤◌, true, false, cond, nat_eq, List, [], ◌∷◌, ◌++◌, length, ap, ◌∙◌, refl, arith}
use Rattle.std.specs.FinSet as sets
use Rattle.std.specs.Ordering.{nat_cmp}
use Rattle.std.specs.Cmp.{nat_cmp_total, nat_eq_equiv}
use Rattle.std.specs.List.{list_any, IsDistinct, AllByRecursion}
use Rattle.std.proofs.lemmas.Bool.Decides.{nat_tests}
use Rattle.std.proofs.lemmas.Map.Keys.{IsDistinct-head, IsDistinct-tail, IsDistinct-cons, IsDistinct-push}
use Rattle.layout.specs.Quorum.{has}

-- the test may compare either way round
has_flipped : (xs : List ℕ) (x : ℕ) → list_any (nat_eq x) xs ≡ has xs x
has_flipped [] x = refl
has_flipped (y ∷ ys) x = grind (arith, nat_tests, has_flipped ys x)

apart_from_has : (xs : List ℕ) (x : ℕ) → has xs x ≡ false → AllByRecursion (λ y. nat_eq x y ≡ false) xs
apart_from_has [] x none = tt
apart_from_has (y ∷ ys) x none = (grind (arith, nat_tests), apart_from_has ys x (grind (arith, nat_tests)))

has-from_apart : (xs : List ℕ) (x : ℕ) → AllByRecursion (λ y. nat_eq x y ≡ false) xs → has xs x ≡ false
has-from_apart [] x apart = refl
has-from_apart (y ∷ ys) x apart = grind (arith, nat_tests, apart.0, has-from_apart ys x apart.1)

-- the first is not among the others
pub has-head : (x : ℕ) (xs : List ℕ) → IsDistinct nat_eq (x ∷ xs) → has xs x ≡ false
has-head x xs distinct = has-from_apart xs x (IsDistinct-head nat_eq x xs distinct)

-- one more in front, which is not among the others
pub distinct_cons : (x : ℕ) (xs : List ℕ) → has xs x ≡ false → IsDistinct nat_eq xs → IsDistinct nat_eq (x ∷ xs)
distinct_cons x xs none distinct = IsDistinct-cons nat_eq x xs (apart_from_has xs x none) distinct

-- one more at the end
pub distinct_push : (xs : List ℕ) (x : ℕ) → has xs x ≡ false → IsDistinct nat_eq xs → IsDistinct nat_eq (xs ++ x ∷ [])
distinct_push xs x none distinct = IsDistinct-push nat_eq_equiv xs x distinct (has_flipped xs x ∙ none)

-- how many numbers are in a list, each counted once
abbrev pub size : List ℕ → ℕ
size xs = sets.len (sets.from_list {R = nat_cmp} xs)

size-cons : (x : ℕ) (xs : List ℕ) → size (x ∷ xs) ≡ cond (has xs x) (size xs) (size xs + 1)
size-cons x xs = sets.len-insert nat_cmp_total (sets.from_list xs) x
    ∙ ap (λ b. cond b (size xs) (size xs + 1)) (sets.contains-from_list_nat xs x)

size-le : (xs : List ℕ) → size xs ≤ length xs
size-le [] = omega (arith, sets.len-empty nat_cmp)
size-le (x ∷ xs) = grind (arith, size-cons x xs, size-le xs)

-- the set of a list is as large as the list exactly where no number comes twice
pub distinct_from_size : (xs : List ℕ) → size xs ≡ length xs → IsDistinct nat_eq xs
unfolding IsDistinct
distinct_from_size [] same = tt
distinct_from_size (x ∷ xs) same =
    elim (has xs x) as (λ b. has xs x ≡ b → IsDistinct nat_eq (x ∷ xs)) [
      | true ↦ λ there. absurd (grind (arith, size-cons x xs, size-le xs))
      | false ↦ λ none. distinct_cons x xs none (distinct_from_size xs (grind (arith, size-cons x xs)))
    ] refl

pub size_from_distinct : (xs : List ℕ) → IsDistinct nat_eq xs → size xs ≡ length xs
size_from_distinct [] distinct = sets.len-empty nat_cmp
size_from_distinct (x ∷ xs) distinct =
    grind (arith, size-cons x xs, has-head x xs distinct, size_from_distinct xs (IsDistinct-tail nat_eq x xs distinct))
