-- Places in lists.
use Rattle.std.proofs.Common.{◌≡◌, ◌+◌, ◌⊎◌, inl, inr, ℕ, zero, suc, List, [], ◌∷◌, ◌++◌, length, map, Some, slice_get}
use Rattle.std.proofs.Common.{refl, sym, ap, ◌∙◌, arith}
use Rattle.std.proofs.lemmas.Option.{same_Some}

pub get_first : {A : Type 0} (xs ys : List A) (i : ℕ) (x : A) → slice_get xs i ≡ Some x → slice_get (xs ++ ys) i ≡ Some x
get_first [] ys i x e = absurd (cc)
get_first (y ∷ xs) ys zero x e = e
get_first (y ∷ xs) ys (suc i) x e = get_first xs ys i x e

-- what is in a longer list was in it before, or is the new last one
pub get_pushed : {A : Type 0} (xs : List A) (y : A) (i : ℕ) (x : A) → slice_get (xs ++ y ∷ []) i ≡ Some x →
    (slice_get xs i ≡ Some x) ⊎ ((i ≡ length xs) × (y ≡ x))
get_pushed [] y zero x e = inr (refl, same_Some y x e)
get_pushed [] y (suc i) x e = absurd (cc)
get_pushed (z ∷ xs) y zero x e = inl e
get_pushed (z ∷ xs) y (suc i) x e = go (get_pushed xs y i x e)
  where
    go : (slice_get xs i ≡ Some x) ⊎ ((i ≡ length xs) × (y ≡ x)) →
        (slice_get xs i ≡ Some x) ⊎ ((suc i ≡ suc (length xs)) × (y ≡ x))
    go (inl before) = inl before
    go (inr new) = inr (ap suc new.0, new.1)

-- a place of two lists is one of the first list, or so many places behind it
pub get_split : {A : Type 0} (xs ys : List A) (i : ℕ) (x : A) → slice_get (xs ++ ys) i ≡ Some x →
    (slice_get xs i ≡ Some x) ⊎ ((k : ℕ) × (i ≡ length xs + k) × (slice_get ys k ≡ Some x))
get_split [] ys i x e = inr (i, omega arith, e)
get_split (y ∷ xs) ys zero x e = inl e
get_split (y ∷ xs) ys (suc i) x e = go (get_split xs ys i x e)
  where
    go : (slice_get xs i ≡ Some x) ⊎ ((k : ℕ) × (i ≡ length xs + k) × (slice_get ys k ≡ Some x)) →
        (slice_get xs i ≡ Some x) ⊎ ((k : ℕ) × (suc i ≡ suc (length xs) + k) × (slice_get ys k ≡ Some x))
    go (inl is) = inl is
    go (inr is) = let far = is.1 in inr (is.0, omega arith, is.2)

-- what is in a changed list was something before
pub get_mapped : {A : Type 0} (f : A → A) (xs : List A) (i : ℕ) (x : A) → slice_get (map f xs) i ≡ Some x →
    (old : A) × (slice_get xs i ≡ Some old) × (f old ≡ x)
get_mapped f [] i x e = absurd (cc)
get_mapped f (y ∷ xs) zero x e = (y, refl, same_Some (f y) x e)
get_mapped f (y ∷ xs) (suc i) x e = get_mapped f xs i x e

-- two elements at one place are the same
pub get_same : {A : Type 0} (xs : List A) (i j : ℕ) (x y : A) → slice_get xs i ≡ Some x → slice_get xs j ≡ Some y → i ≡ j → x ≡ y
get_same xs i j x y here there same = same_Some x y (sym here ∙ ap (slice_get xs) same ∙ there)
