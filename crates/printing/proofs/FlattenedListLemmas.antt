-- Texts that grow by that of one more element.
use Rattle.std.proofs.Common.{◌≡◌, ℕ, ◌+◌, ◌<◌, ◌≤◌, List, [], ◌∷◌, ◌++◌, length, take}
use Rattle.std.proofs.Common.{get_or, map, Some, sym, ap, subst, ◌∙◌, zero-add, append-nil}
use Rattle.std.specs.Prelude.{slice_get}
use Rattle.std.specs.List.{enumerate_from, flat_map, join_with_byte}
use Rattle.std.proofs.lemmas.List.{flat_map_more, take_all, take_more}
use Rattle.std.proofs.lemmas.List.FromFn.{get_or-enumerate_from, length-enumerate_from}
use Rattle.std.proofs.lemmas.Option.{get_or_from_slice_get, slice_get_within}

-- the first elements and one more
pub flat_map-take_more : {X Y : Type 0} (f : X → List Y) (xs : List X) (i : ℕ) (d : X) → i < length xs
    → flat_map f (take (i + 1) xs) ≡ flat_map f (take i xs) ++ f (get_or xs i d)
flat_map-take_more {X} f xs i d below =
    ap (λ (ys : List X). flat_map f ys) (take_more xs i d below) ∙ sym (flat_map_more f [] (take i xs) (get_or xs i d))

pub flat_map-take_item : {X : Type 0} (f : X → List ℕ) (xs : List X) (i : ℕ) (x : X) → i < length xs → x ≡ get_or xs i x
    → flat_map f (take (i + 1) xs) ≡ flat_map f (take i xs) ++ f x
flat_map-take_item {X} f xs i x below is =
    flat_map-take_more f xs i x below ∙ ap (λ (y : X). flat_map f (take i xs) ++ f y) (sym is)

pub flat_map-take_at : {X : Type 0} (f : X → List ℕ) (xs : List X) (i : ℕ) (x : X) → slice_get xs i ≡ Some x
    → flat_map f (take (i + 1) xs) ≡ flat_map f (take i xs) ++ f x
flat_map-take_at {X} f xs i x is =
    flat_map-take_more f xs i x (slice_get_within xs i x is)
    ∙ ap (λ (y : X). flat_map f (take i xs) ++ f y) (get_or_from_slice_get xs i x x is)

-- the first elements and one more, each with its place
pub flat_map-numbered_more : {X : Type 0} (f : ℕ × X → List ℕ) (xs : List X) (i : ℕ) (d : X) → i < length xs
    → flat_map f (take (i + 1) (enumerate_from 0 xs)) ≡ flat_map f (take i (enumerate_from 0 xs)) ++ f (i, get_or xs i d)
flat_map-numbered_more {X} f xs i d below =
    let P : ℕ → Type 0 = λ n. i < n in
    flat_map-take_more f (enumerate_from 0 xs) i (0, d) (subst P (sym (length-enumerate_from 0 xs)) below)
    ∙ ap (λ (p : ℕ × X). flat_map f (take i (enumerate_from 0 xs)) ++ f p)
    (get_or-enumerate_from 0 xs i (0, d) below ∙ ap (λ (j : ℕ). (j, get_or xs i d)) (zero-add i))

pub flat_map-numbered_item : {X : Type 0} (f : ℕ × X → List ℕ) (xs : List X) (i : ℕ) (x : X) → i < length xs → x ≡ get_or xs i x
    → flat_map f (take (i + 1) (enumerate_from 0 xs)) ≡ flat_map f (take i (enumerate_from 0 xs)) ++ f (i, x)
flat_map-numbered_item {X} f xs i x below is =
    flat_map-numbered_more f xs i x below ∙ ap (λ (y : X). flat_map f (take i (enumerate_from 0 xs)) ++ f (i, y)) (sym is)

pub flat_map-numbered_at : {X : Type 0} (f : ℕ × X → List ℕ) (xs : List X) (i : ℕ) (x : X) → slice_get xs i ≡ Some x
    → flat_map f (take (i + 1) (enumerate_from 0 xs)) ≡ flat_map f (take i (enumerate_from 0 xs)) ++ f (i, x)
flat_map-numbered_at {X} f xs i x is =
    flat_map-numbered_more f xs i x (slice_get_within xs i x is)
    ∙ ap (λ (y : X). flat_map f (take i (enumerate_from 0 xs)) ++ f (i, y)) (get_or_from_slice_get xs i x x is)

-- all elements, after a text
pub flat_map-all : {X : Type 0} (head : List ℕ) (f : X → List ℕ) (xs : List X) (n : ℕ) → length xs ≤ n
    → head ++ flat_map f (take n xs) ≡ head ++ flat_map f xs
flat_map-all {X} head f xs n all = ap (λ (ys : List X). head ++ flat_map f ys) (take_all n xs all)

pub flat_map-numbered_all : {X : Type 0} (head : List ℕ) (f : ℕ × X → List ℕ) (xs : List X) (n : ℕ) → length xs ≤ n
    → head ++ flat_map f (take n (enumerate_from 0 xs)) ≡ head ++ flat_map f (enumerate_from 0 xs)
flat_map-numbered_all head f xs n all =
    let P : ℕ → Type 0 = λ k. k ≤ n in
    flat_map-all head f (enumerate_from 0 xs) n (subst P (sym (length-enumerate_from 0 xs)) all)

-- texts parted by a byte are the first, and each other after that byte
pub join_with_byte-flat_map : {X : Type 0} (c : ℕ) (f : X → List ℕ) (x : X) (xs : List X)
    → join_with_byte c (map f (x ∷ xs)) ≡ f x ++ flat_map (λ y. c ∷ f y) xs
join_with_byte-flat_map c f x [] = sym (append-nil (f x))
join_with_byte-flat_map c f x (y ∷ ys) = ap (λ (t : List ℕ). f x ++ (c ∷ t)) (join_with_byte-flat_map c f y ys)
