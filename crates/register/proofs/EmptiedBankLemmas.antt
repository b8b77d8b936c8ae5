-- Banks that drop their pieces one after another.
use Rattle.std.proofs.Common.{◌≡◌, ℕ, zero, suc, ◌+◌, ◌≤◌, List, [], ◌∷◌, ◌++◌, length, map, take, drop, get_or, set, slice_get, Some, refl}
use Rattle.std.proofs.Common.{sym, ap, arith}
use Rattle.std.proofs.lemmas.List.Sums.{sum_by-cons}
use Rattle.bank.specs.Bank.{Bank}
use Rattle.bank.specs.Bytes.{bank_bytes}
use Rattle.register.specs.Position.{banks_bytes}
use Rattle.register.proofs.ListLemmas.{same_some}

-- the first `count` banks, each changed by f, and the other banks as they were
abbrev pub dropped_so_far : (Bank → Bank) → List Bank → (count : ℕ) → List Bank
dropped_so_far f banks count = map f (take count banks) ++ drop count banks

-- the bank at place i is still as it was when f has changed the first i banks
pub next_is : (f : Bank → Bank) (banks : List Bank) (i : ℕ) (other : Bank)
    → get_or (dropped_so_far f banks i) i other ≡ get_or banks i other
next_is f (bank ∷ banks) (suc i) other = next_is f banks i other
next_is f [] (suc i) other = refl
next_is f _ _ other = refl

pub next_dropped : (f : Bank → Bank) (banks : List Bank) (i : ℕ) (bank : Bank) → slice_get banks i ≡ Some bank
    → set (dropped_so_far f banks i) i (f bank) ≡ dropped_so_far f banks (suc i)
next_dropped f [] i bank at = absurd (cc)
next_dropped f (first ∷ banks) zero bank at = ap (λ b. f b ∷ banks) (sym (same_some first bank at))
next_dropped f (first ∷ banks) (suc i) bank at = ap (λ bs. f first ∷ bs) (next_dropped f banks i bank at)

pub next_freed : (banks : List Bank) (i : ℕ) (bank : Bank) → slice_get banks i ≡ Some bank
    → banks_bytes (take (suc i) banks) ≡ banks_bytes (take i banks) + bank_bytes bank
next_freed [] i bank at = absurd (cc)
next_freed (first ∷ banks) zero bank at =
    let same : bank_bytes first ≡ bank_bytes bank = ap bank_bytes (same_some first bank at) in
    omega (arith, same, sum_by-cons bank_bytes first [])
next_freed (first ∷ banks) (suc i) bank at =
    let rest = next_freed banks i bank at in
    omega (arith, rest, sum_by-cons bank_bytes first (take (suc i) banks), sum_by-cons bank_bytes first (take i banks))

-- the first i banks store no more bytes than all banks
pub first_least : (banks : List Bank) (i : ℕ) → banks_bytes (take i banks) ≤ banks_bytes banks
first_least (first ∷ banks) (suc i) =
    let rest = first_least banks i in
    omega (arith, rest, sum_by-cons bank_bytes first (take i banks), sum_by-cons bank_bytes first banks)
first_least [] (suc i) = omega arith
first_least _ _ = omega arith

-- f has changed all banks if it has changed as many as there are
pub all_dropped : (f : Bank → Bank) (banks : List Bank) → dropped_so_far f banks (length banks) ≡ map f banks
all_dropped f [] = refl
all_dropped f (first ∷ banks) = ap (λ bs. f first ∷ bs) (all_dropped f banks)

pub all_freed : (banks : List Bank) → banks_bytes (take (length banks) banks) ≡ banks_bytes banks
all_freed [] = refl
all_freed (first ∷ banks) =
    let rest = all_freed banks in
    omega (arith, rest, sum_by-cons bank_bytes first (take (length banks) banks), sum_by-cons bank_bytes first banks)
