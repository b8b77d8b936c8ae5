-- Sums of polynomials, each times a byte: their coefficients, lengths and values.
use Rattle.std.proofs.Common.{◌≡◌, ℕ, zero, suc, ◌<◌, List, [], ◌∷◌, length, get_or}
use Rattle.std.proofs.Common.{bit_xor, refl, sym, ap₂, ◌∙◌, arith}
use Rattle.std.specs.Int.Bits.{xor_zero_r}
use Rattle.std.proofs.lemmas.List.{length-map}
use Rattle.std.proofs.lemmas.List.Elements.{All-nil, All-cons, All-head, All-tail}
use Rattle.gf256.specs.Field.{field_product, field_sum}
use Rattle.gf256.specs.Polynomial.{AreBytes, evaluate, sum_of, scaled}
use Rattle.gf256.proofs.FieldLemmas.{product_lt, product-zero_right}
use Rattle.gf256.proofs.RootLemmas.{IsByte, evaluate-sum_of, evaluate-scaled, length-sum_of, AreBytes-sum_of}

-- the sum of y i times the polynomial row i, over i below n
unfoldable pub combination : ℕ → (ℕ → ℕ) → (ℕ → List ℕ) → List ℕ
combination zero y row = []
combination (suc n) y row = sum_of (combination n y row) (scaled (y n) (row n))

pub evaluate-combination : (n : ℕ) (y : ℕ → ℕ) (row : ℕ → List ℕ) (x : ℕ) →
    ((i : ℕ) → i < n → y i < 256) → ((i : ℕ) → i < n → AreBytes (row i)) → x < 256 →
    evaluate (combination n y row) x ≡ field_sum n (λ i. field_product (y i) (evaluate (row i) x))
unfolding evaluate combination field_sum
evaluate-combination zero y row x hy hr hx = refl
evaluate-combination (suc n) y row x hy hr hx =
    evaluate-sum_of (combination n y row) (scaled (y n) (row n)) x
    ∙ ap₂ bit_xor (evaluate-combination n y row x (λ i hi. hy i (omega arith)) (λ i hi. hr i (omega arith)) hx)
    (evaluate-scaled (y n) (row n) x (hy n (omega arith)) (hr n (omega arith)) hx)

-- the coefficient j of a polynomial, 0 past its end
pub get_or-sum_of : (cs ds : List ℕ) (j : ℕ) → get_or (sum_of cs ds) j 0 ≡ bit_xor (get_or cs j 0) (get_or ds j 0)
unfolding sum_of
get_or-sum_of [] ds j = refl
get_or-sum_of (c ∷ cs) [] j = sym (xor_zero_r (get_or (c ∷ cs) j 0))
get_or-sum_of (c ∷ cs) (d ∷ ds) zero = refl
get_or-sum_of (c ∷ cs) (d ∷ ds) (suc j) = get_or-sum_of cs ds j

pub get_or-scaled : (y : ℕ) (cs : List ℕ) (j : ℕ) → get_or (scaled y cs) j 0 ≡ field_product y (get_or cs j 0)
get_or-scaled y [] j = sym (product-zero_right y)
get_or-scaled y (c ∷ cs) zero = refl
get_or-scaled y (c ∷ cs) (suc j) = get_or-scaled y cs j

pub get_or-combination : (n : ℕ) (y : ℕ → ℕ) (row : ℕ → List ℕ) (j : ℕ)
    → get_or (combination n y row) j 0 ≡ field_sum n (λ i. field_product (y i) (get_or (row i) j 0))
unfolding combination field_sum
get_or-combination zero y row j = refl
get_or-combination (suc n) y row j =
    get_or-sum_of (combination n y row) (scaled (y n) (row n)) j
    ∙ ap₂ bit_xor (get_or-combination n y row j) (get_or-scaled (y n) (row n) j)

pub AreBytes-scaled : (y : ℕ) (cs : List ℕ) → y < 256 → AreBytes cs → AreBytes (scaled y cs)
AreBytes-scaled y [] hy hc = All-nil IsByte
AreBytes-scaled y (c ∷ cs) hy hc =
    All-cons IsByte _ _ (product_lt y c hy (All-head IsByte c cs hc)) (AreBytes-scaled y cs hy (All-tail IsByte c cs hc))

pub AreBytes-combination : (n : ℕ) (y : ℕ → ℕ) (row : ℕ → List ℕ) → ((i : ℕ) → i < n → y i < 256) → ((i : ℕ) → i < n → AreBytes (row i))
    → AreBytes (combination n y row)
unfolding combination
AreBytes-combination zero y row hy hr = All-nil IsByte
AreBytes-combination (suc n) y row hy hr =
    AreBytes-sum_of _ _ (AreBytes-combination n y row (λ i hi. hy i (omega arith)) (λ i hi. hr i (omega arith)))
    (AreBytes-scaled (y n) (row n) (hy n (omega arith)) (hr n (omega arith)))

pub length-combination : (n k : ℕ) (y : ℕ → ℕ) (row : ℕ → List ℕ) → ((i : ℕ) → i < suc n → length (row i) ≡ k) →
    length (combination (suc n) y row) ≡ k
unfolding combination sum_of
length-combination zero k y row h = length-map (row 0) (field_product (y 0)) ∙ h 0 (omega arith)
length-combination (suc n) k y row h =
    let before : length (combination (suc n) y row) ≡ k = length-combination n k y row (λ i hi. h i (omega arith)) in
    let last : length (scaled (y (suc n)) (row (suc n))) ≡ k = length-map (row (suc n)) (field_product (y (suc n)))
    ∙ h (suc n) (omega arith) in
    length-sum_of (combination (suc n) y row) (scaled (y (suc n)) (row (suc n))) (omega arith) ∙ before
