-- Sorted pieces, one at each point.
use Rattle.std.proofs.Common.{◌≡◌, ℕ, zero, suc, ◌+◌, ◌<◌, ◌≤◌, List, [], ◌∷◌}
use Rattle.std.proofs.Common.{length, Some, map, slice_get, All, IsPermutation, refl, ap, ◌∙◌, arith}
use Rattle.std.proofs.lemmas.Bool.Decides.{nat_tests}
use Rattle.std.proofs.lemmas.List.Elements.{All-head, All-tail}
use Rattle.std.proofs.lemmas.List.Sorted.{All-permutation, IsPermutation-map, sum_by-IsPermutation}
use Rattle.std.specs.List.Sorted.{IsNonDecreasingBy}
use Rattle.std.specs.Prelude.{if◌then◌else◌, ◌==◌}
use Rattle.encoder.specs.Coded.{ArePieces}
use Rattle.encoder.specs.Fragment.{piece_at_point}
use Rattle.piece.specs.declared.piece.Piece.{Piece}
use Rattle.coding_pool.specs.Jobs.{times, once_below}
use Rattle.coding_pool.specs.Worker.{point_of, IsEach}
use Rattle.coding_pool.proofs.QueueRuleLemmas.{times-append, once_more}

itself : (job : ℕ) → times job (job ∷ []) ≡ 1
itself job = grind (arith, nat_tests)

another : (x job : ℕ) → job < x → times job (x ∷ []) ≡ 0
another x job below = grind (arith, nat_tests)

-- a job below each of the points is at none
none_below : (x job : ℕ) (pieces : List Piece) → job < x → All (λ p. x ≤ point_of p) pieces →
    times job (map point_of pieces) ≡ 0
none_below x job [] below h = refl
none_below x job (p ∷ ps) below h =
    let first : x ≤ point_of p = All-head (λ q. x ≤ point_of q) p ps h in
    let one = another (point_of p) job (omega (arith, below, first)) in
    let rest = none_below x job ps below (All-tail (λ q. x ≤ point_of q) p ps h) in
    omega (arith, one, rest, times-append job (point_of p ∷ []) (map point_of ps))

no_more : (a n : ℕ) → 0 + once_below a a ≡ once_below (a + n) a → 0 ≡ n
no_more a n e = grind (arith, nat_tests)

from : (a n x t : ℕ) → (1 + t) + once_below a x ≡ once_below (a + n) x → a ≤ x
from a n x t e = grind (arith, nat_tests)

below : (a n x t : ℕ) → (1 + t) + once_below a x ≡ once_below (a + n) x → x < a + n
below a n x t e = grind (arith, nat_tests)

-- the least point is a, since a is at one
least : (a n x t : ℕ) → (a < x → t ≡ 0) → t + once_below a a ≡ once_below (a + n) a → a ≤ x → x < a + n → x ≡ a
least a n x t none each low high = grind (arith, nat_tests)

-- the first of sorted pieces at the points from a on, n of them, each once
first_at : (a n : ℕ) (p : Piece) (ps : List Piece) → IsNonDecreasingBy point_of (p ∷ ps) →
    ((job : ℕ) → times job (map point_of (p ∷ ps)) + once_below a job ≡ once_below (a + n) job) →
    (point_of p ≡ a) × (point_of p < a + n)
first_at a n p ps up each =
    let x : ℕ = point_of p in
    let here : (1 + times x (map point_of ps)) + once_below a x
    ≡ once_below (a + n) x = omega (arith, each x, times-append x (x ∷ []) (map point_of ps), itself x) in
    let low = from a n x _ here in
    let high = below a n x _ here in
    let all : All (λ q. x ≤ point_of q) (p ∷ ps) = λ j d less. up 0 j d (omega arith) less in
    (least a n x (times a (map point_of (p ∷ ps))) (λ less. none_below x a (p ∷ ps) less all) (each a) low high, high)

-- they stand in their places
in_place : (value : List ℕ) (k a : ℕ) (pieces : List Piece) (n : ℕ) →
    IsNonDecreasingBy point_of pieces → All (λ p. p ≡ piece_at_point value k p.point) pieces →
    ((job : ℕ) → times job (map point_of pieces) + once_below a job ≡ once_below (a + n) job) →
    (length pieces ≡ n) × ((i : ℕ) → i < length pieces → slice_get pieces i ≡ Some (piece_at_point value k (a + i)))
in_place value k a [] n up made each = (no_more a n (each a), λ i less. absurd (omega (arith, less)))
in_place value k a (p ∷ ps) zero up made each =
    let first = first_at a zero p ps up each in absurd (omega (arith, first.0, first.1))
in_place value k a (p ∷ ps) (suc m) up made each =
    let first = first_at a (suc m) p ps up each in
    let tail : IsNonDecreasingBy point_of ps = λ i j d le less. up (suc i) (suc j) d (omega (arith, le)) (omega (arith, less)) in
    let after = in_place value k (a + 1) ps m tail (All-tail (λ q. q ≡ piece_at_point value k q.point) p ps made) (λ job.
    let parts = times-append job (point_of p ∷ []) (map point_of ps) in
    let same = ap (λ (z : ℕ). times job (z ∷ [])) first.0 in
    let more = once_more job a in
    let reach : a + suc m ≡ (a + 1) + m = omega arith in
    let to = ap (λ (z : ℕ). once_below z job) reach in
    omega (arith, each job, parts, same, more, to)) in
    (omega (arith, after.0), λ i less. places i less after.1)
  where
    places : (i : ℕ) → i < length (p ∷ ps) →
        ((j : ℕ) → j < length ps → slice_get ps j ≡ Some (piece_at_point value k ((a + 1) + j))) →
        slice_get (p ∷ ps) i ≡ Some (piece_at_point value k (a + i))
    places zero less after =
        let first = first_at a (suc m) p ps up each in
        let at : point_of p ≡ a + 0 = omega (arith, first.0) in
        let is = All-head (λ q. q ≡ piece_at_point value k q.point) p ps made in
        ap (λ (q : Piece). Some q) (is ∙ ap (λ (z : ℕ). piece_at_point value k z) at)
    places (suc i) less after =
        let at : (a + 1) + i ≡ a + suc i = omega arith in
        after i (omega (arith, less)) ∙ ap (λ (z : ℕ). Some (piece_at_point value k z)) at

-- what was made in any order, each piece once, is in order once it is sorted
pub sorted_pieces : (value : List ℕ) (k n : ℕ) (made pieces : List Piece) → IsPermutation made pieces →
    IsNonDecreasingBy point_of pieces → IsEach n made → All (λ p. p ≡ piece_at_point value k p.point) made →
    (length pieces ≡ n) × ArePieces value k pieces
sorted_pieces value k n made pieces moved up each all =
    let found = in_place value k 0 pieces n up (All-permutation (λ p. p ≡ piece_at_point value k p.point) made pieces moved all) (λ job.
    let same = sum_by-IsPermutation (λ j. if j == job then 1 else 0) (map point_of made) (map point_of pieces)
    (IsPermutation-map point_of made pieces moved) in
    let reach : 0 + n ≡ n = omega arith in
    let to = ap (λ (z : ℕ). once_below z job) reach in
    let none : once_below 0 job ≡ 0 = grind (arith, nat_tests) in
    omega (arith, each job, same, to, none)) in
    (found.0, λ i less. let at : 0 + i ≡ i = omega arith in found.1 i less ∙ ap (λ (z : ℕ). Some (piece_at_point value k z)) at)
