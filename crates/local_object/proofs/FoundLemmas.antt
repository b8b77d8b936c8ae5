-- The first element of a list that passes a test.
use Rattle.std.proofs.Common.{◌≡◌, ℕ, zero, suc, ◌<◌, Bool, true, false, cond, ltb, List, [], ◌∷◌, Option, Some, None, MatchOption}
use Rattle.std.proofs.Common.{slice_get}
use Rattle.std.proofs.Common.{length, get_or, refl, sym, subst, arith}
use Rattle.std.specs.List.{position, position_or_len}
use Rattle.std.proofs.lemmas.Bool.{ltb-true, ltb-false}
use Rattle.std.proofs.lemmas.List.Sums.{fails_before_first, passes_at_first}

-- the test fails at each element before this index
abbrev pub FailsBelow : {X : Type 0} → (X → Bool) → List X → (i : ℕ) → Type 0
FailsBelow {X} p xs i = (k : ℕ) (d : X) → k < i → p (get_or xs k d) ≡ false

-- this index is within the list, and the first at which the test passes
pub record IsFirst {X : Type 0} (p : X → Bool) (xs : List X) (i : ℕ) : Type 0 where
  pub within : i < length xs
  pub passes : (d : X) → p (get_or xs i d) ≡ true
  pub before : FailsBelow p xs i

pub first_of : {X : Type 0} (p : X → Bool) (xs : List X) (o : Option ℕ) → o ≡ position p xs
    → MatchOption o (FailsBelow p xs (length xs)) (IsFirst p xs)
first_of {X} p xs o is =
    subst (λ o. MatchOption o (FailsBelow p xs (length xs)) (IsFirst p xs)) (sym is) (go (ltb (position_or_len p xs) (length xs)) refl)
  where
    go : (b : Bool) → ltb (position_or_len p xs) (length xs) ≡ b
        → MatchOption (cond b (Some (position_or_len p xs)) None) (FailsBelow p xs (length xs)) (IsFirst p xs)
    go true t =
        let within = ltb-true (position_or_len p xs) (length xs) t in
        record { within = within; passes = λ d. passes_at_first p xs d within; before = λ k d h. fails_before_first p xs k d h }
    go false f = let beyond = ltb-false (position_or_len p xs) (length xs) f in λ k d h. fails_before_first p xs k d (omega arith)

-- the element at a place within a list
pub element : {X : Type 0} (xs : List X) (i : ℕ) → i < length xs → (x : X) × (slice_get xs i ≡ Some x)
element [] i within = absurd (omega (arith, within))
element (x ∷ xs) zero within = (x, refl)
element (x ∷ xs) (suc i) within = element xs i (omega (arith, within))
