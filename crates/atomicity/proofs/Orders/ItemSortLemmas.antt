-- A list of items is sorted, and what that keeps.
use Rattle.std.proofs.Common.{nat_eq, ◌≡◌, ℕ, ◌≤◌, ◌⊎◌, true, false, eqb}
use Rattle.std.proofs.Common.{List, [], ◌∷◌, map, Some, inl, inr, arith, ne_eqb, eq-eqb}
use Rattle.std.proofs.lemmas.Bool.{or_left, or_right}
use Rattle.std.specs.List.{AllByRecursion, IsDistinct}
use Rattle.tag.specs.Tag.{IsBelow}
use Rattle.layout.specs.Quorum.{has}
use Rattle.record.specs.declared.call.Entry.{Entry}
use Rattle.atomicity.specs.Atomic.{IsAnsweredBefore, KeepsOrder}
use Rattle.atomicity.proofs.Orders.OrderedItemLemmas.{Item, Before, before_trans, IsOrdered, Some_of, AllPairs}
use Rattle.soundness.proofs.ListLemmas.{all_weaker, all_pairs}
use Rattle.record.proofs.TagOrderLemmas.{IsAtMost}

-- what holds of each two items in order
pub pairs_of : (P : Item → Type 0) (R : Item → Item → Type 0) → ((x y : Item) → P x → P y → Before x y → R x y) →
    (xs : List Item) → AllByRecursion P xs → IsOrdered xs → AllPairs R xs
pairs_of P R f [] all ordered = tt
pairs_of P R f (x ∷ xs) all ordered = (
  all_weaker (λ y. P y × Before x y) (R x) (λ y p. f x y all.0 p.0 p.1) xs (all_pairs P (Before x) xs all.1 ordered.0),
  pairs_of P R f xs all.1 ordered.1,
)

-- sorting
pub order_cases : (a b : Item) → Before a b ⊎ (Before b a ⊎ (a.called ≡ b.called))
order_cases a b = grind arith

abbrev place : (x y : Item) → Before x y ⊎ (Before y x ⊎ (x.called ≡ y.called)) → List Item → List Item → List Item
place x y (inl first) ys rest = x ∷ y ∷ ys
place x y (inr second) ys rest = y ∷ rest

abbrev insert : Item → List Item → List Item
insert x [] = x ∷ []
insert x (y ∷ ys) = place x y (order_cases x y) ys (insert x ys)

abbrev pub sort : List Item → List Item
sort [] = []
sort (x ∷ xs) = insert x (sort xs)

all_insert : (P : Item → Type 0) (x : Item) (xs : List Item) → P x → AllByRecursion P xs → AllByRecursion P (insert x xs)
all_insert P x [] p all = (p, tt)
all_insert P x (y ∷ ys) p all = go (order_cases x y) (all_insert P x ys p all.1)
  where
    go : (o : Before x y ⊎ (Before y x ⊎ (x.called ≡ y.called))) → AllByRecursion P (insert x ys) →
        AllByRecursion P (place x y o ys (insert x ys))
    go (inl first) rest = (p, all)
    go (inr second) rest = (all.0, rest)

some_insert : (P : Item → Type 0) (x : Item) (xs : List Item) → Some_of P (x ∷ xs) → Some_of P (insert x xs)
some_insert P x [] some = some
some_insert P x (y ∷ ys) some = go (order_cases x y) (some_insert P x ys) some
  where
    go : (o : Before x y ⊎ (Before y x ⊎ (x.called ≡ y.called))) → (P x ⊎ Some_of P ys → Some_of P (insert x ys)) →
        P x ⊎ (P y ⊎ Some_of P ys) → Some_of P (place x y o ys (insert x ys))
    go (inl first) rest any = any
    go (inr second) rest (inl here) = inr (rest (inl here))
    go (inr second) rest (inr (inl other)) = inl other
    go (inr second) rest (inr (inr there)) = inr (rest (inr there))

abbrev pub Differ : Item → Item → Type 0
Differ x y = x.called ≡ y.called → ⊥

ordered_insert : (x : Item) (xs : List Item) → AllByRecursion (Differ x) xs → IsOrdered xs → IsOrdered (insert x xs)
ordered_insert x [] differ ordered = (tt, tt)
ordered_insert x (y ∷ ys) differ ordered = go (order_cases x y) (ordered_insert x ys differ.1 ordered.1)
  where
    go : (o : Before x y ⊎ (Before y x ⊎ (x.called ≡ y.called))) → IsOrdered (insert x ys) →
        IsOrdered (place x y o ys (insert x ys))
    go (inl first) rest = ((first, all_weaker (Before y) (Before x) (λ z p. before_trans x y z first p) ys ordered.0), ordered)
    go (inr (inl second)) rest = (all_insert (Before y) x ys second ordered.0, rest)
    go (inr (inr same)) rest = absurd (differ.0 same)

pub all_sort : (P : Item → Type 0) (xs : List Item) → AllByRecursion P xs → AllByRecursion P (sort xs)
all_sort P [] all = tt
all_sort P (x ∷ xs) all = all_insert P x (sort xs) all.0 (all_sort P xs all.1)

pub some_sort : (P : Item → Type 0) (xs : List Item) → Some_of P xs → Some_of P (sort xs)
some_sort P [] some = some
some_sort P (x ∷ xs) (inl here) = some_insert P x (sort xs) (inl here)
some_sort P (x ∷ xs) (inr there) = some_insert P x (sort xs) (inr (some_sort P xs there))

pub ordered_sort : (xs : List Item) → AllPairs Differ xs → IsOrdered (sort xs)
ordered_sort [] differ = tt
ordered_sort (x ∷ xs) differ = ordered_insert x (sort xs) (all_sort (Differ x) xs differ.0) (ordered_sort xs differ.1)

-- numbers
abbrev pub numbers : List Item → List ℕ
numbers xs = map (λ (x : Item). x.number) xs

pub numbers_all : (P : ℕ → Type 0) (xs : List Item) → AllByRecursion (λ x. P x.number) xs → AllByRecursion P (numbers xs)
numbers_all P [] all = tt
numbers_all P (x ∷ xs) all = (all.0, numbers_all P xs all.1)

pub distinct_numbers : (xs : List Item) → AllPairs (λ x y. x.number ≡ y.number → ⊥) xs → IsDistinct nat_eq (numbers xs)
unfolding IsDistinct
distinct_numbers [] pairs = tt
distinct_numbers (x ∷ xs) pairs = (
  numbers_all (λ n. nat_eq x.number n ≡ false) xs
      (all_weaker (λ y. x.number ≡ y.number → ⊥) (λ y. nat_eq x.number y.number ≡ false)
      (λ y f. ne_eqb x.number y.number f) xs pairs.0),
  distinct_numbers xs pairs.1,
)

pub has_number : (xs : List Item) (n : ℕ) → Some_of (λ x. x.number ≡ n) xs → has (numbers xs) n ≡ true
has_number [] n some = absurd some
has_number (x ∷ xs) n (inl here) = or_left (eqb x.number n) (has (numbers xs) n) (eq-eqb x.number n here)
has_number (x ∷ xs) n (inr there) = or_right (eqb x.number n) (has (numbers xs) n) (has_number xs n there)

-- the order of entries
entries_all : (P : Entry → Type 0) (xs : List Item) → AllByRecursion (λ x. P x.entry) xs →
    AllByRecursion P (map (λ (x : Item). x.entry) xs)
entries_all P [] all = tt
entries_all P (x ∷ xs) all = (all.0, entries_all P xs all.1)

pub keeps_order : (xs : List Item) → AllPairs (λ x y. IsAnsweredBefore y.entry x.entry → ⊥) xs →
    KeepsOrder (map (λ (x : Item). x.entry) xs)
keeps_order [] pairs = tt
keeps_order (x ∷ xs) pairs = (entries_all (λ other. IsAnsweredBefore other x.entry → ⊥) xs pairs.0, keeps_order xs pairs.1)

-- an answer before a call keeps the tags in order, strictly for a write
abbrev pub Respects : Item → Item → Type 0
Respects x y = IsAnsweredBefore x.entry y.entry → IsAtMost x.tag y.tag × (y.reads ≡ 0 → IsBelow x.tag y.tag)

pub answered_in_order : (x y : Item) → Respects y x → (x.reads ≡ 0) ⊎ (x.reads ≡ 1) → (y.reads ≡ 0) ⊎ (y.reads ≡ 1) →
    x.entry.called ≡ x.called → ((step : ℕ) → y.entry.answered ≡ Some step → y.called ≤ step) → Before x y →
    IsAnsweredBefore y.entry x.entry → ⊥
answered_in_order x y respects kx ky called later before answered = grind arith
