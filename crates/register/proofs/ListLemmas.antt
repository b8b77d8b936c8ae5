-- Lists with one element changed, and sums over them.
use Rattle.std.proofs.Common.{◌≡◌, ℕ, zero, suc, ◌+◌, ◌<◌, ◌≤◌, ◌||◌, Bool, List, [], ◌∷◌, ◌++◌, map, length, set, slice_get, Some}
use Rattle.std.proofs.Common.{option_map, Result, Ok, Err, OnOk, sym, ap, subst, ◌∙◌, refl, arith}
use Rattle.std.specs.List.{AllByRecursion, list_any, sum_by}
use Rattle.std.proofs.lemmas.List.Sums.{get_or-le-sum_by, sum_by-set}
use Rattle.std.proofs.lemmas.Option.{get_or_from_slice_get, slice_get_within, slice_get-map}

pub same_some : {X : Type 0} (x y : X) → Some x ≡ Some y → x ≡ y
same_some x y e = cc

-- what holds after a step that was made
pub on_ok : {T E : Type 0} {P Q : Type 0} (r : Result T E) → (P → Q) → OnOk r P → OnOk r Q
on_ok (Ok x) f p = f p
on_ok (Err e) f p = p

-- the element at a place within a list
pub found : {X : Type 0} (xs : List X) (i : ℕ) → i < length xs → (x : X) × (slice_get xs i ≡ Some x)
found [] i within = absurd (omega (arith, within))
found (x ∷ xs) zero within = (x, refl)
found (x ∷ xs) (suc i) within = found xs i (omega (arith, within))

-- maps

pub found_map : {X Y : Type 0} (f : X → Y) (xs : List X) (i : ℕ) (x : X) → slice_get xs i ≡ Some x → slice_get (map f xs) i ≡ Some (f x)
found_map f xs i x e = slice_get-map f xs i ∙ ap (option_map f) e

pub found_of_map : {X Y : Type 0} (f : X → Y) (xs : List X) (i : ℕ) (y : Y) → slice_get (map f xs) i ≡ Some y
    → (x : X) × (slice_get xs i ≡ Some x) × (f x ≡ y)
found_of_map f [] i y e = absurd (cc)
found_of_map f (x ∷ xs) zero y e = (x, refl, same_some (f x) y e)
found_of_map f (x ∷ xs) (suc i) y e = found_of_map f xs i y e

pub length_map : {X Y : Type 0} (f : X → Y) (xs : List X) → length (map f xs) ≡ length xs
length_map f [] = refl
length_map f (x ∷ xs) = ap suc (length_map f xs)

pub map_push : {X Y : Type 0} (f : X → Y) (xs : List X) (x : X) → map f (xs ++ x ∷ []) ≡ map f xs ++ f x ∷ []
map_push f [] x = refl
map_push f (y ∷ ys) x = ap (λ zs. f y ∷ zs) (map_push f ys x)

pub length_push : {X : Type 0} (xs : List X) (x : X) → length (xs ++ x ∷ []) ≡ suc (length xs)
length_push [] x = refl
length_push (y ∷ ys) x = ap suc (length_push ys x)

-- one put over another
pub set_push : {X : Type 0} (xs : List X) (x y : X) → set (xs ++ x ∷ []) (length xs) y ≡ xs ++ y ∷ []
set_push [] x y = refl
set_push (z ∷ zs) x y = ap (λ ws. z ∷ ws) (set_push zs x y)

-- what holds of each element

pub all_weaker : {X : Type 0} (P Q : X → Type 0) (xs : List X) → ((x : X) → P x → Q x) → AllByRecursion P xs → AllByRecursion Q xs
all_weaker P Q [] same all = tt
all_weaker P Q (x ∷ xs) same all = (same x all.0, all_weaker P Q xs same all.1)

-- whether an element passes

pub any_put : {X : Type 0} (test : X → Bool) (xs : List X) (i : ℕ) (old new : X) → slice_get xs i ≡ Some old → test new ≡ test old
    → list_any test (set xs i new) ≡ list_any test xs
any_put test [] i old new at same = refl
any_put test (x ∷ xs) zero old new at same = ap (λ b. b || list_any test xs) (same ∙ ap test (sym (same_some x old at)))
any_put test (x ∷ xs) (suc i) old new at same = ap (λ b. test x || b) (any_put test xs i old new at same)

-- sums

pub sum_put : {X : Type 0} (f : X → ℕ) (xs : List X) (i : ℕ) (old new : X) → slice_get xs i ≡ Some old
    → sum_by f (set xs i new) + f old ≡ sum_by f xs + f new
sum_put f xs i old new at =
    let here = get_or_from_slice_get xs i old old at in
    subst (λ x. sum_by f (set xs i new) + f x ≡ sum_by f xs + f new) here (sum_by-set f xs i new old (slice_get_within xs i old at))

pub sum_at : {X : Type 0} (f : X → ℕ) (xs : List X) (i : ℕ) (x : X) → slice_get xs i ≡ Some x → f x ≤ sum_by f xs
sum_at f xs i x at = subst (λ y. f y ≤ sum_by f xs) (get_or_from_slice_get xs i x x at)
    (get_or-le-sum_by f xs i x (slice_get_within xs i x at))
