-- Names, and what is kept by name.
use Rattle.std.proofs.Common.{◌≡◌, ℕ, zero, suc, ◌⊎◌, inl, inr, nat_eq, Bool, true, false, cond, List, [], ◌∷◌, ◌++◌, Some, slice_get}
use Rattle.std.proofs.Common.{refl, sym, ap}
use Rattle.std.specs.Bool.{Decides}
use Rattle.std.specs.Cmp.Lexicographic.{pointwise}
use Rattle.std.proofs.lemmas.Bool.Decides.{Decides-eqb}
use Rattle.std.proofs.lemmas.Slice.Eq.{slice_eq-Decides}
use Rattle.local_object.specs.Local.{LocalObject}
use Rattle.deeds.specs.Named.{IsOneOf, NamedLetter, is_same_name, with_named}

pub names_decided : (name other : List ℕ) → Decides (is_same_name name other) (name ≡ other)
names_decided name other = slice_eq-Decides Decides-eqb name other (pointwise nat_eq name other) refl

pub own_named : (objects : List ℕ → LocalObject) (name : List ℕ) (local : LocalObject) →
    with_named objects name local name ≡ local
own_named objects name local = ap (λ b. cond b local (objects name)) ((names_decided name name).1 refl)

pub other_named : (objects : List ℕ → LocalObject) (name : List ℕ) (local : LocalObject) (other : List ℕ) →
    is_same_name name other ≡ false → with_named objects name local other ≡ objects other
other_named objects name local other apart = ap (λ b. cond b local (objects other)) apart

-- an object in its own place changes nothing
pub same_named : (objects : List ℕ → LocalObject) (name other : List ℕ) →
    objects other ≡ with_named objects name (objects name) other
same_named objects name other = go (is_same_name name other) refl
  where
    go : (b : Bool) → is_same_name name other ≡ b → objects other ≡ cond b (objects name) (objects other)
    go true e = ap objects (sym ((names_decided name other).0 e))
    go false e = refl

-- the second of two objects in one place stays
pub twice_named : (objects : List ℕ → LocalObject) (name : List ℕ) (first second : LocalObject) (other : List ℕ) →
    with_named (with_named objects name first) name second other ≡ with_named objects name second other
twice_named objects name first second other = go (is_same_name name other)
  where
    go : (b : Bool) → cond b second (cond b first (objects other)) ≡ cond b second (objects other)
    go true = refl
    go false = refl

-- Letters

pub one_of_first : (xs ys : List NamedLetter) (letter : NamedLetter) → IsOneOf xs letter → IsOneOf (xs ++ ys) letter
one_of_first xs ys letter is = (is.0, go xs is.0 is.1)
  where
    go : (xs : List NamedLetter) (i : ℕ) → slice_get xs i ≡ Some letter → slice_get (xs ++ ys) i ≡ Some letter
    go [] i e = absurd (cc)
    go (x ∷ xs) zero e = e
    go (x ∷ xs) (suc i) e = go xs i e

pub one_of_second : (xs ys : List NamedLetter) (letter : NamedLetter) → IsOneOf ys letter → IsOneOf (xs ++ ys) letter
one_of_second [] ys letter is = is
one_of_second (x ∷ xs) ys letter is = let rest = one_of_second xs ys letter is in (suc rest.0, rest.1)

pub one_of_both : (xs ys : List NamedLetter) (letter : NamedLetter) → IsOneOf (xs ++ ys) letter →
    IsOneOf xs letter ⊎ IsOneOf ys letter
one_of_both xs ys letter is = go xs is.0 is.1
  where
    later : (x : NamedLetter) (xs : List NamedLetter) → IsOneOf xs letter ⊎ IsOneOf ys letter →
        IsOneOf (x ∷ xs) letter ⊎ IsOneOf ys letter
    later x xs (inl is) = inl (suc is.0, is.1)
    later x xs (inr is) = inr is

    go : (xs : List NamedLetter) (i : ℕ) → slice_get (xs ++ ys) i ≡ Some letter → IsOneOf xs letter ⊎ IsOneOf ys letter
    go [] i e = inr (i, e)
    go (x ∷ xs) zero e = inl (zero, e)
    go (x ∷ xs) (suc i) e = later x xs (go xs i e)

-- where each letter of some is one of others, it is so with more behind both
pub one_of_more : (xs ys zs : List NamedLetter) → ((letter : NamedLetter) → IsOneOf xs letter → IsOneOf ys letter) →
    (letter : NamedLetter) → IsOneOf (xs ++ zs) letter → IsOneOf (ys ++ zs) letter
one_of_more xs ys zs within letter is = go (one_of_both xs zs letter is)
  where
    go : IsOneOf xs letter ⊎ IsOneOf zs letter → IsOneOf (ys ++ zs) letter
    go (inl first) = one_of_first ys zs letter (within letter first)
    go (inr second) = one_of_second ys zs letter second
