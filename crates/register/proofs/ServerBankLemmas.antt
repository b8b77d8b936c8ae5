-- Which bank of a position is a server's.
use Rattle.std.proofs.Common.{◌≡◌, ℕ, zero, suc, ◌+◌, ◌<◌, ◌≤◌, ◌==◌, nat_eq, true, false, cond, List, [], ◌∷◌, length, get_or, slice_get}
use Rattle.std.proofs.Common.{Option, Some, None, ap, subst, ◌∙◌, refl, arith}
use Rattle.std.specs.List.{AllByRecursion, IsDistinct, position, position_or_len}
use Rattle.std.proofs.lemmas.List.Quantifiers.{position-Some}
use Rattle.std.proofs.lemmas.List.Sums.{fails_before_first}
use Rattle.std.proofs.lemmas.Grind.{common_steps}
use Rattle.std.proofs.lemmas.Bool.Decides.{nat_tests}
use Rattle.bank.specs.Bank.{Bank}
use Rattle.bank.specs.Bytes.{bank_bytes}
use Rattle.record.specs.Accounts.{position_bytes}

-- a server that is no member stores nothing
pub none_stored : (server : ℕ) (members : List ℕ) (banks : List Bank) → AllByRecursion (λ m. nat_eq server m ≡ false) members
    → position_bytes server members banks ≡ 0
none_stored server (m ∷ ms) (b ∷ bs) others =
    let apart : (m == server) ≡ false = grind (arith, nat_tests, others.0) in
    ap (λ t. cond t (bank_bytes b) 0 + position_bytes server ms bs) apart ∙ ap (λ n. 0 + n) (none_stored server ms bs others.1)
none_stored server _ _ others = refl

-- the bytes of the bank at a place, if there is one
abbrev pub bytes_of : Option Bank → ℕ
bytes_of None = 0
bytes_of (Some bank) = bank_bytes bank

head_only : (server m : ℕ) (ms : List ℕ) (banks : List Bank) → (m == server) ≡ true → AllByRecursion (λ y. nat_eq m y ≡ false) ms
    → position_bytes server (m ∷ ms) banks ≡ bytes_of (slice_get banks 0)
head_only server m ms [] here others = refl
head_only server m ms (b ∷ bs) here others =
    let same : m ≡ server = grind (arith, nat_tests, here) in
    ap (λ t. cond t (bank_bytes b) 0 + position_bytes server ms bs) here
    ∙ ap (λ n. bank_bytes b + n) (none_stored server ms bs (subst (λ m. AllByRecursion (λ y. nat_eq m y ≡ false) ms) same others))
    ∙ plus_none (bank_bytes b)
  where
    plus_none : (n : ℕ) → n + 0 ≡ n
    plus_none n = omega arith

all_at : {X : Type 0} (P : X → Type 0) (xs : List X) (i : ℕ) (d : X) → AllByRecursion P xs → i < length xs → P (get_or xs i d)
all_at P [] i d all within = absurd (omega (arith, within))
all_at P (x ∷ xs) zero d all within = all.0
all_at P (x ∷ xs) (suc i) d all within = all_at P xs i d all.1 (omega (arith, within))

none_plus : (n : ℕ) → 0 + n ≡ n
none_plus n = omega arith

-- a server that is member i stores what bank i does
pub stored_at : (server : ℕ) (members : List ℕ) (banks : List Bank) (i : ℕ) → IsDistinct nat_eq members → i < length members
    → (get_or members i 0 == server) ≡ true
    → position_bytes server members banks ≡ bytes_of (slice_get banks i)
unfolding IsDistinct
stored_at server [] banks i distinct within here = absurd (omega (arith, within))
stored_at server (m ∷ ms) banks zero distinct within here = head_only server m ms banks here distinct.0
stored_at server (m ∷ ms) [] (suc i) distinct within here = refl
stored_at server (m ∷ ms) (b ∷ bs) (suc i) distinct within here =
    let inside : i < length ms = omega (arith, within) in
    let apart = all_at (λ y. nat_eq m y ≡ false) ms i 0 distinct.0 inside in
    let other : (m == server) ≡ false = grind (arith, nat_tests, apart, here) in
    cc (other, none_plus (position_bytes server ms bs), stored_at server ms bs i distinct.1 inside here)

from_places : (P : ℕ → Type 0) (xs : List ℕ) → ((k : ℕ) → k < length xs → P (get_or xs k 0)) → AllByRecursion P xs
from_places P [] each = tt
from_places P (x ∷ xs) each = (each 0 (omega arith), from_places P xs (λ k within. each (suc k) (omega (arith, within))))

pub stored_by : (server : ℕ) (members : List ℕ) (banks : List Bank) (i : ℕ) → IsDistinct nat_eq members
    → position (λ m. m == server) members ≡ Some i
    → position_bytes server members banks ≡ bytes_of (slice_get banks i)
stored_by server members banks i distinct is =
    let there = position-Some (λ m. m == server) members i 0 is in stored_at server members banks i distinct there.0 there.1

pub stored_none : (server : ℕ) (members : List ℕ) (banks : List Bank) → position (λ m. m == server) members ≡ None
    → position_bytes server members banks ≡ 0
stored_none server members banks is =
    none_stored server members banks (from_places (λ m. nat_eq server m ≡ false) members (λ k within.
    let past : length members ≤ position_or_len (λ m. m == server) members = grind (arith, common_steps, is) in
    let fails = fails_before_first (λ m. m == server) members k 0 (omega (arith, past, within)) in
    grind (arith, nat_tests, fails)))
