-- What is so of each element of a list, and of lists in which one element is put or set.
use Rattle.std.proofs.lemmas.Grind.{common_steps}
use Rattle.std.proofs.Common.{nat_eq, ◌≡◌, ℕ, zero, suc, ◌⊎◌, List, [], ◌∷◌, arith}
use Rattle.std.proofs.Common.{◌++◌, set, Some, refl, subst, ap, inl, inr, slice_get}
use Rattle.std.proofs.lemmas.Option.{same_Some}
use Rattle.std.specs.List.{AllByRecursion, IsDistinct}

-- each of the list
pub all_get : {A : Type 0} (P : A → Type 0) (xs : List A) (i : ℕ) (x : A) → AllByRecursion P xs → slice_get xs i ≡ Some x → P x
all_get P [] i x all e = absurd (cc)
all_get P (y ∷ ys) zero x all e = subst P (same_Some y x e) all.0
all_get P (y ∷ ys) (suc i) x all e = all_get P ys i x all.1 e

-- one more
pub all_push : {A : Type 0} (P : A → Type 0) (xs : List A) (y : A) → AllByRecursion P xs → P y → AllByRecursion P (xs ++ y ∷ [])
all_push P xs y all p = grind (arith, common_steps)

pub get_push : {A : Type 0} (xs : List A) (y x : A) (i : ℕ) → slice_get xs i ≡ Some x → slice_get (xs ++ y ∷ []) i ≡ Some x
get_push [] y x i e = absurd (cc)
get_push (z ∷ zs) y x zero e = e
get_push (z ∷ zs) y x (suc i) e = get_push zs y x i e

-- what stands where one element is set: the new one there, and the old ones elsewhere
pub get_set : {A : Type 0} (xs : List A) (i j : ℕ) (old new x : A) → slice_get xs i ≡ Some old →
    slice_get (set xs i new) j ≡ Some x → ((j ≡ i) × (new ≡ x)) ⊎ (slice_get xs j ≡ Some x)
get_set [] i j old new x at e = absurd (cc)
get_set (y ∷ ys) zero zero old new x at e = inl (refl, same_Some new x e)
get_set (y ∷ ys) (suc i) (suc j) old new x at e = go (get_set ys i j old new x at e)
  where
    go : ((j ≡ i) × (new ≡ x)) ⊎ (slice_get ys j ≡ Some x) → ((suc j ≡ suc i) × (new ≡ x)) ⊎ (slice_get ys j ≡ Some x)
    go (inl here) = inl (ap suc here.0, here.1)
    go (inr there) = inr there
get_set (y ∷ ys) _ _ old new x at e = inr e

pub set_here : {A : Type 0} (xs : List A) (i : ℕ) (old new : A) → slice_get xs i ≡ Some old →
    slice_get (set xs i new) i ≡ Some new
set_here [] i old new at = absurd (cc)
set_here (y ∷ ys) zero old new at = refl
set_here (y ∷ ys) (suc i) old new at = set_here ys i old new at

pub set_there : {A : Type 0} (xs : List A) (i j : ℕ) (new x : A) → (j ≡ i → ⊥) → slice_get xs j ≡ Some x →
    slice_get (set xs i new) j ≡ Some x
set_there [] i j new x other e = absurd (cc)
set_there (y ∷ ys) zero zero new x other e = absurd (other refl)
set_there (y ∷ ys) (suc i) (suc j) new x other e = set_there ys i j new x (λ s. other (ap suc s)) e
set_there (y ∷ ys) _ _ new x other e = e

-- none stands twice in the empty list
pub none_twice : IsDistinct nat_eq []
unfolding IsDistinct
none_twice = tt

pub all_set : {A : Type 0} (P : A → Type 0) (xs : List A) (i : ℕ) (y : A) → AllByRecursion P xs → P y →
    AllByRecursion P (set xs i y)
all_set P xs i y all p = grind (arith, common_steps)

pub all_weaker : {A : Type 0} (P Q : A → Type 0) → ((x : A) → P x → Q x) → (xs : List A) →
    AllByRecursion P xs → AllByRecursion Q xs
all_weaker P Q f [] all = tt
all_weaker P Q f (x ∷ xs) all = (f x all.0, all_weaker P Q f xs all.1)

pub all_pairs : {A : Type 0} (P Q : A → Type 0) (xs : List A) → AllByRecursion P xs → AllByRecursion Q xs →
    AllByRecursion (λ x. P x × Q x) xs
all_pairs P Q [] p q = tt
all_pairs P Q (x ∷ xs) p q = ((p.0, q.0), all_pairs P Q xs p.1 q.1)

-- if P of an element gives Q of it, then P of all elements gives Q of all; P and Q are found from the first argument
pub all_map : {A : Type 0} {P Q : A → Type 0} → ((x : A) → P x → Q x) → (xs : List A) → AllByRecursion P xs → AllByRecursion Q xs
all_map f [] all = tt
all_map f (x ∷ xs) all = (f x all.0, all_map f xs all.1)

-- what follows from two properties of each
pub all_both : {A : Type 0} {P Q R : A → Type 0} → ((x : A) → P x → Q x → R x) → (xs : List A) →
    AllByRecursion P xs → AllByRecursion Q xs → AllByRecursion R xs
all_both f [] p q = tt
all_both f (x ∷ xs) p q = (f x p.0 q.0, all_both f xs p.1 q.1)

-- a property of the element at each index holds of all elements
pub all_at : {A : Type 0} {P : A → Type 0} (xs : List A) → ((i : ℕ) (x : A) → slice_get xs i ≡ Some x → P x) → AllByRecursion P xs
all_at [] f = tt
all_at (x ∷ xs) f = (f 0 x refl, all_at xs (λ i y e. f (suc i) y e))
