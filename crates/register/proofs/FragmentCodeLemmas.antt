-- The encoder's fragments are a code.
use Rattle.std.proofs.Common.{◌≡◌, ℕ, zero, suc, ◌+◌, ◌<◌, ◌≤◌, nat_eq, false}
use Rattle.std.proofs.Common.{List, [], ◌∷◌, length, take, min, refl, ap₂, ◌∙◌, arith}
use Rattle.std.specs.List.{AllByRecursion, IsDistinct}
use Rattle.std.proofs.lemmas.Bool.Decides.{Decides-eqb}
use Rattle.std.proofs.lemmas.List.Elements.{All-from_recursion}
use Rattle.std.proofs.lemmas.List.{nil_from_length}
use Rattle.std.proofs.lemmas.Map.Made.{AllPairs-from_IsDistinct}
use Rattle.std.proofs.Math.Nat.{zero-div, zero-mod}
use Rattle.encoder.specs.Fragment.{fragment, fragment_len}
use Rattle.encoder.proofs.ColumnLemmas.{length-fragment}
use Rattle.decoder.proofs.UniqueValueLemmas.{determined}
use Rattle.record.specs.Fragments.{Determines, IsCode}

all_take : (P : ℕ → Type 0) (k : ℕ) (xs : List ℕ) → AllByRecursion P xs → AllByRecursion P (take k xs)
all_take P (suc k) (x ∷ xs) all = (all.0, all_take P k xs all.1)
all_take P _ _ all = tt

distinct_take : (k : ℕ) (xs : List ℕ) → IsDistinct nat_eq xs → IsDistinct nat_eq (take k xs)
unfolding IsDistinct
distinct_take (suc k) (x ∷ xs) distinct = (all_take (λ y. nat_eq x y ≡ false) k xs distinct.0, distinct_take k xs distinct.1)
distinct_take _ _ distinct = tt

length-take_within : (k : ℕ) (xs : List ℕ) → k ≤ length xs → length (take k xs) ≡ k
length-take_within zero xs within = refl
length-take_within (suc k) [] within = absurd (omega arith)
length-take_within (suc k) (x ∷ xs) within = let rest = length-take_within k xs (omega arith) in omega arith

pub fragments_determine : Determines fragment
fragments_determine k points v w some few enough distinct below first second same agree =
    determined k (take k points) v w some few (length-take_within k points enough)
    (AllPairs-from_IsDistinct Decides-eqb (take k points) (distinct_take k points distinct))
    (All-from_recursion (λ x. x < 256) (take k points) (all_take (λ x. x < 256) k points below))
    (All-from_recursion (λ x. x < 256) v first.0) (All-from_recursion (λ x. x < 256) w second.0) first.1 same
    (All-from_recursion (λ x. fragment v k x ≡ fragment w k x) (take k points)
    (all_take (λ x. fragment v k x ≡ fragment w k x) k points agree))

no_len : (k : ℕ) → fragment_len k 0 ≡ 0
no_len k = ap₂ (λ a b. a + min 1 b) (zero-div k) (zero-mod k)

pub fragments_are_code : IsCode fragment
fragments_are_code = record {
  determines = fragments_determine;
  empty = λ k x. nil_from_length (fragment [] k x) (length-fragment [] k x ∙ no_len k);
}
