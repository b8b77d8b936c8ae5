-- How many members a list without repeats names, and how many pieces they brought.
use Rattle.std.proofs.Common.{◌≡◌, ℕ, zero, suc, ◌+◌, ◌<◌, ◌≤◌, nat_eq, Bool, true, false, is_some, List, [], ◌∷◌, length, Option, Some}
use Rattle.std.proofs.Common.{None, sym, subst, refl, arith}
use Rattle.std.specs.List.{AllByRecursion, IsDistinct}
use Rattle.std.proofs.lemmas.Bool.{eqb-true, eq-eqb}
use Rattle.piece.specs.declared.piece.Piece.{Piece}
use Rattle.mail.specs.declared.phase.Taken.{Taken}
use Rattle.register.specs.Coding.{piece_by, piece_list, pieces_below}
use Rattle.register.proofs.RoomLemmas.{length_append}

-- a list without repeats, and without n
record IsWithout (n brought : ℕ) (test : ℕ → Bool) (xs : List ℕ) : Type 0 where
  rest : List ℕ
  pass : AllByRecursion (λ x. test x ≡ true) rest
  apart : (x : ℕ) → AllByRecursion (λ y. nat_eq x y ≡ false) xs → AllByRecursion (λ y. nat_eq x y ≡ false) rest
  below : AllByRecursion (λ x. x < n) rest
  distinct : IsDistinct nat_eq rest
  few : length xs ≤ length rest + brought

apart_below : (n x : ℕ) → x < suc n → nat_eq n x ≡ false → x < n
apart_below n x less apart = let no_same : n ≡ x → ⊥ = λ e. (let t = eq-eqb n x e in cc) in omega (arith, less, no_same)

all_below : (n : ℕ) (xs : List ℕ) → AllByRecursion (λ x. x < suc n) xs → AllByRecursion (λ x. nat_eq n x ≡ false) xs
    → AllByRecursion (λ x. x < n) xs
all_below n [] less apart = tt
all_below n (x ∷ xs) less apart = (apart_below n x less.0 apart.0, all_below n xs less.1 apart.1)

without_head : (n brought : ℕ) (test : ℕ → Bool) (x : ℕ) (xs : List ℕ) → 1 ≤ brought → x ≡ n → AllByRecursion (λ x. x < suc n) (x ∷ xs)
    → AllByRecursion (λ x. test x ≡ true) (x ∷ xs) → IsDistinct nat_eq (x ∷ xs) → IsWithout n brought test (x ∷ xs)
unfolding IsDistinct
without_head n brought test x xs some same below pass distinct = record {
  rest = xs;
  pass = pass.1;
  apart = λ y all. all.1;
  below = all_below n xs below.1 (subst (λ m. AllByRecursion (λ y. nat_eq m y ≡ false) xs) same distinct.0);
  distinct = distinct.1;
  few = omega (arith, some);
}

without_later : (n brought : ℕ) (test : ℕ → Bool) (x : ℕ) (xs : List ℕ) → x < n → test x ≡ true → IsDistinct nat_eq (x ∷ xs)
    → IsWithout n brought test xs
    → IsWithout n brought test (x ∷ xs)
unfolding IsDistinct
without_later n brought test x xs less passes distinct w = record {
  rest = x ∷ w.rest;
  pass = (passes, w.pass);
  apart = λ y all. (all.0, w.apart y all.1);
  below = (less, w.below);
  distinct = (w.apart x distinct.0, w.distinct);
  few = let few = w.few in omega (arith, few);
}

tail_distinct : (x : ℕ) (xs : List ℕ) → IsDistinct nat_eq (x ∷ xs) → IsDistinct nat_eq xs
unfolding IsDistinct
tail_distinct x xs distinct = distinct.1

none_distinct : IsDistinct nat_eq []
unfolding IsDistinct
none_distinct = tt

without : (n brought : ℕ) (test : ℕ → Bool) → (test n ≡ true → 1 ≤ brought) → (xs : List ℕ) → AllByRecursion (λ x. x < suc n) xs
    → AllByRecursion (λ x. test x ≡ true) xs → IsDistinct nat_eq xs → IsWithout n brought test xs
without n brought test some [] below all distinct =
    record { rest = []; pass = tt; apart = λ x all. tt; below = tt; distinct = none_distinct; few = omega arith }
without n brought test some (x ∷ xs) below all distinct =
    go (nat_eq n x) refl (without n brought test some xs below.1 all.1 (tail_distinct x xs distinct))
  where
    go : (b : Bool) → nat_eq n x ≡ b → IsWithout n brought test xs → IsWithout n brought test (x ∷ xs)
    go true e w =
        let same : x ≡ n = sym (eqb-true n x e) in
        without_head n brought test x xs (some (subst (λ m. test m ≡ true) same all.0)) same below all distinct
    go false e w = without_later n brought test x xs (apart_below n x below.0 e) all.0 distinct w

some_listed : (o : Option Piece) → is_some o ≡ true → 1 ≤ length (piece_list o)
some_listed None e = absurd (cc)
some_listed (Some piece) e = omega arith

-- pieces of that many members
pub count_below : (replies : List Taken) (n : ℕ) (xs : List ℕ) → AllByRecursion (λ x. x < n) xs
    → AllByRecursion (λ x. is_some (piece_by replies x) ≡ true) xs
    → IsDistinct nat_eq xs → length xs ≤ length (pieces_below replies n)
count_below replies zero [] below all distinct = omega arith
count_below replies zero (x ∷ xs) below all distinct = absurd (let less = below.0 in omega (arith, less))
count_below replies (suc n) xs below all distinct =
    let brought : ℕ = length (piece_list (piece_by replies n)) in
    let w = without n brought (λ x. is_some (piece_by replies x)) (some_listed (piece_by replies n)) xs below all distinct in
    let few = w.few in
    let rest = count_below replies n w.rest w.below w.pass w.distinct in
    omega (arith, few, rest, length_append (pieces_below replies n) (piece_list (piece_by replies n)))
