-- Lists that grow by what one more pair gives.
use Rattle.std.proofs.Common.{◌≡◌, ℕ, ◌+◌, ◌<◌, ◌≤◌, List, [], ◌∷◌, ◌++◌, length, take}
use Rattle.std.proofs.Common.{get_or, sym, ap, ◌∙◌, append_assoc, arith}
use Rattle.std.specs.List.{flat_map, zip}
use Rattle.std.proofs.lemmas.List.{take_all}
use Rattle.std.proofs.lemmas.Slice.Zip.{get_or-zip, length-zip}
use Rattle.printing.proofs.FlattenedListLemmas.{flat_map-take_more}

-- the first pairs and one more
pub flat_map-zip_more : {A B Y : Type 0} (f : A × B → List Y) (xs : List A) (ys : List B) (i : ℕ) (d : A × B)
    → i < length xs → i < length ys
    → flat_map f (take (i + 1) (zip xs ys)) ≡ flat_map f (take i (zip xs ys)) ++ f (get_or xs i d.0, get_or ys i d.1)
flat_map-zip_more {A} {B} f xs ys i d below beside =
    let both = length-zip xs ys in
    flat_map-take_more f (zip xs ys) i d (omega (arith, both, below, beside))
    ∙ ap (λ (p : A × B). flat_map f (take i (zip xs ys)) ++ f p) (get_or-zip xs ys i d below beside)

-- two elements more, which the next pair gives
pub both_more : {A B Y : Type 0} (f : A × B → List Y) (xs : List A) (ys : List B) (i : ℕ) (x : A) (d : B) (one two : Y)
    (old middle new : List Y) → i < length xs → i < length ys → x ≡ get_or xs i x
    → f (x, get_or ys i d) ≡ one ∷ two ∷ [] → old ≡ flat_map f (take i (zip xs ys)) → middle ≡ old ++ one ∷ []
    → new ≡ middle ++ two ∷ [] → new ≡ flat_map f (take (i + 1) (zip xs ys))
both_more {A} {B} {Y} f xs ys i x d one two old middle new below beside here gives so_far first second =
    second
    ∙ (ap (λ (l : List Y). l ++ two ∷ []) first
    ∙ (append_assoc old (one ∷ []) (two ∷ [])
    ∙ (ap (λ (l : List Y). l ++ one ∷ two ∷ []) so_far
    ∙ (ap (λ (l : List Y). flat_map f (take i (zip xs ys)) ++ l) (sym gives)
    ∙ (ap (λ (a : A). flat_map f (take i (zip xs ys)) ++ f (a, get_or ys i d)) here
    ∙ sym (flat_map-zip_more f xs ys i (x, d) below beside))))))

-- all pairs
pub flat_map-zip_all : {A B Y : Type 0} (f : A × B → List Y) (xs : List A) (ys : List B) (i : ℕ) (made : List Y)
    → made ≡ flat_map f (take i (zip xs ys)) → length ys ≡ length xs → length xs ≤ i → made ≡ flat_map f (zip xs ys)
flat_map-zip_all {A} {B} f xs ys i made is same all =
    let both = length-zip xs ys in
    is ∙ ap (λ (l : List (A × B)). flat_map f l) (take_all i (zip xs ys) (omega (arith, both, same, all)))
