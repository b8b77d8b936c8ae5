-- The elements of a list after one is appended, or after one is replaced.
use Rattle.std.proofs.Common.{◌≡◌, ◌≢◌, ◌<◌, ◌⊎◌, ℕ, zero, suc, List, [], ◌∷◌, ◌++◌, length, set}
use Rattle.std.proofs.Common.{Some, refl, ap, inl, inr, arith}
use Rattle.std.specs.Prelude.{slice_get}

-- what two equal options have
pub same_some : {X : Type 0} (x y : X) → Some x ≡ Some y → x ≡ y
same_some x y e = cc

-- the elements before the new one stay
pub front : {X : Type 0} (xs : List X) (x : X) (i : ℕ) → i < length xs → slice_get (xs ++ x ∷ []) i ≡ slice_get xs i
front [] x i within = absurd (omega (arith, within))
front (y ∷ ys) x zero within = refl
front (y ∷ ys) x (suc i) within = front ys x i (omega (arith, within))

-- the new one is the last
pub last : {X : Type 0} (xs : List X) (x : X) → slice_get (xs ++ x ∷ []) (length xs) ≡ Some x
last [] x = refl
last (y ∷ ys) x = last ys x

-- after an append, the element at an index is the one that was there before, or the appended one
pub pushed : {X : Type 0} (xs : List X) (x y : X) (i : ℕ) → slice_get (xs ++ x ∷ []) i ≡ Some y
    → (slice_get xs i ≡ Some y) ⊎ ((i ≡ length xs) × (x ≡ y))
pushed [] x y zero e = inr (refl, same_some x y e)
pushed [] x y (suc i) e = absurd (cc)
pushed (z ∷ zs) x y zero e = inl e
pushed (z ∷ zs) x y (suc i) e = elim (pushed zs x y i e) [
  | inl old ↦ inl old
  | inr new ↦ inr (ap suc new.0, new.1)
]

-- where something stands is within the list
pub within : {X : Type 0} (xs : List X) (i : ℕ) (x : X) → slice_get xs i ≡ Some x → i < length xs
within [] i x e = absurd (cc)
within (y ∷ ys) zero x e = omega arith
within (y ∷ ys) (suc i) x e = let rest = within ys i x e in omega (arith, rest)

-- after an element is replaced, the element at an index is the new one, or the one that was there before
pub changed : {X : Type 0} (xs : List X) (i j : ℕ) (new x : X) → slice_get (set xs i new) j ≡ Some x
    → ((j ≡ i) × (new ≡ x)) ⊎ ((j ≢ i) × (slice_get xs j ≡ Some x))
changed [] i j new x e = absurd (cc)
changed (y ∷ ys) zero zero new x e = inl (refl, same_some new x e)
changed (y ∷ ys) zero (suc j) new x e = inr ((λ same. absurd (omega (arith, same))), e)
changed (y ∷ ys) (suc i) zero new x e = inr ((λ same. absurd (omega (arith, same))), e)
changed (y ∷ ys) (suc i) (suc j) new x e = elim (changed ys i j new x e) [
  | inl here ↦ inl (ap suc here.0, here.1)
  | inr there ↦ inr ((λ same. there.0 (omega (arith, same))), there.1)
]

-- another element in a place leaves the length
pub length-changed : {X : Type 0} (xs : List X) (i : ℕ) (x : X) → length (set xs i x) ≡ length xs
length-changed [] i x = refl
length-changed (y ∷ ys) zero x = refl
length-changed (y ∷ ys) (suc i) x = ap suc (length-changed ys i x)

-- one element more
pub length-pushed : {X : Type 0} (xs : List X) (x : X) → length (xs ++ x ∷ []) ≡ suc (length xs)
length-pushed [] x = refl
length-pushed (y ∷ ys) x = ap suc (length-pushed ys x)
