-- The rows of Lagrange's basis sum up to the polynomial 1: so does each column of their table, to 0 or 1.
use Rattle.std.proofs.Common.{◌≡◌, ℕ, zero, suc, ◌+◌, ◌-◌, ◌*◌, ◌<◌, ◌≤◌, List, ◌∷◌, length, get_or, replicate, true, bit_xor}
use Rattle.std.proofs.Common.{refl, sym, ap, ◌∙◌, subst, arith, lit<, ⊎_elim}
use Rattle.std.proofs.lemmas.Bool.{cases_lt, ne_eqb}
use Rattle.std.proofs.Math.Dec.{eqb}
use Rattle.std.proofs.lemmas.List.{get_or-replicate, length-replicate}
use Rattle.std.proofs.lemmas.List.Elements.{All-cons, All-from_get_or}
use Rattle.gf256.specs.Field.{field_product, field_sum}
use Rattle.gf256.specs.Polynomial.{AreBytes, AreDistinct, evaluate, Interpolates}
use Rattle.gf256.proofs.BasisRowLemmas.{basis_row, AreBytes-basis_row, IsBasisRow-unique, IsBasisRow-basis_row}
use Rattle.gf256.proofs.FieldLemmas.{product-one_left, product-zero_right}
use Rattle.gf256.proofs.FieldSumLemmas.{field_sum_same}
use Rattle.gf256.proofs.InterpolationLemmas.{interpolation, get_or-interpolation, Interpolates-interpolation, Interpolates-unique}
use Rattle.gf256.proofs.RootLemmas.{IsByte, evaluate_lt}
use Rattle.kernels.specs.Dot.{row}
use Rattle.kernels.specs.Level.{HaveLevels, level}
use Rattle.kernels.proofs.LaneSumLemmas.{get_or-zeros}
use Rattle.kernels.proofs.LevelSumLemmas.{level_zero, level_later}
use Rattle.poly.specs.Basis.{HasRows}
use Rattle.decoder.specs.Rows.{HaveColumnSums}
use Rattle.decoder.proofs.InterpolationLemmas.{evaluate-interpolation}

zero_value : (n x : ℕ) → evaluate (replicate n 0) x ≡ 0
unfolding evaluate
zero_value zero x = refl
zero_value (suc n) x = ap (λ y. bit_xor 0 (field_product x y)) (zero_value n x) ∙ ap (bit_xor 0) (product-zero_right x)

same_bytes : (n c : ℕ) → c < 256 → AreBytes (replicate n c)
same_bytes n c hc =
    All-from_get_or IsByte (replicate n c) 0
    (λ i hi.
    let inside : i < n = omega (arith, hi, length-replicate n c) in
    subst IsByte (sym (get_or-replicate n i c 0 inside)) hc)

-- the polynomial 1, with n coefficients above the constant one
unit : ℕ → List ℕ
unit n = 1 ∷ replicate n 0

evaluate-unit : (n x : ℕ) → evaluate (unit n) x ≡ 1
unfolding unit evaluate
evaluate-unit n x = ap (λ y. bit_xor 1 (field_product x y)) (zero_value n x) ∙ ap (bit_xor 1) (product-zero_right x)

Interpolates-unit : (points : List ℕ) (n : ℕ) → suc n ≡ length points → Interpolates points (replicate (length points) 1) (unit n)
unfolding unit
Interpolates-unit points n len =
    record {
      len = ap suc (length-replicate {A = ℕ} n 0) ∙ len;
      bytes = All-cons IsByte 1 (replicate n 0) (lit< tt) (same_bytes n 0 (lit< tt));
      at_points = λ i hi. evaluate-unit n (get_or points i 0) ∙ sym (get_or-replicate (length points) i 1 0 hi);
    }

unit_at : (n j : ℕ) → get_or (unit n) j 0 ≡ level true j
unfolding unit
unit_at n zero = sym (level_zero 0 refl)
unit_at n (suc j) = get_or-zeros n j ∙ sym (level_later (suc j) (omega arith))

-- the rows sum up to it
interpolation-ones : (points : List ℕ) → AreBytes points → AreDistinct points → 0 < length points
    → interpolation points (replicate (length points) 1) ≡ unit (length points - 1)
interpolation-ones points bytes distinct some =
    let k = length points in
    let top : suc (k - 1) ≡ k = omega arith in
    Interpolates-unique points bytes distinct (replicate k 1) (interpolation points (replicate k 1)) (unit (k - 1))
    (Interpolates-interpolation points bytes distinct (replicate k 1) (same_bytes k 1 (lit< tt)) (length-replicate k 1))
    (Interpolates-unit points (k - 1) top)

pub HaveColumnSums-rows : (table points : List ℕ) → AreBytes points → AreDistinct points → 0 < length points
    → HasRows table points → HaveColumnSums table (length points)
HaveColumnSums-rows table points bytes distinct some rows j hj =
    let k = length points in
    let ones : List ℕ = replicate k 1 in
    let term : ℕ → ℕ = λ i. field_product (get_or ones i 0) (get_or (basis_row points i) j 0) in
    field_sum_same k (row table k j) term
    (λ i hi.
    let line = rows i hi in
    let is_row = IsBasisRow-basis_row points bytes distinct i hi in
    let same : line.basis ≡ basis_row points i =
    IsBasisRow-unique points bytes distinct i line.basis (basis_row points i) hi line.is_row is_row in
    let c = get_or (basis_row points i) j 0 in
    let byte : c < 256 = AreBytes-basis_row points bytes distinct i hi j 0 (omega (arith, is_row.len)) in
    line.same j hj ∙ ap (λ (b : List ℕ). get_or b j 0) same
    ∙ sym (ap (λ y. field_product y c) (get_or-replicate k i 1 0 hi) ∙ product-one_left c byte))
    ∙ sym (get_or-interpolation points ones j)
    ∙ ap (λ (cs : List ℕ). get_or cs j 0) (interpolation-ones points bytes distinct some)
    ∙ unit_at (k - 1) j

-- so their values at any point sum up to 1
pub value_sum : (points : List ℕ) → AreBytes points → AreDistinct points → 0 < length points → (x : ℕ) → x < 256
    → field_sum (length points) (λ i. evaluate (basis_row points i) x) ≡ 1
value_sum points bytes distinct some x hx =
    let k = length points in
    let row_at : ℕ → ℕ = λ i. evaluate (basis_row points i) x in
    field_sum_same k row_at (λ i. field_product (get_or (replicate k 1) i 0) (row_at i))
    (λ i hi.
    sym (ap (λ y. field_product y (row_at i)) (get_or-replicate k i 1 0 hi)
    ∙ product-one_left (row_at i) (evaluate_lt (basis_row points i) x (AreBytes-basis_row points bytes distinct i hi) hx)))
    ∙ sym (evaluate-interpolation points bytes distinct (replicate k 1) (same_bytes k 1 (lit< tt)) (length-replicate k 1) x hx)
    ∙ ap (λ (cs : List ℕ). evaluate cs x) (interpolation-ones points bytes distinct some)
    ∙ evaluate-unit (k - 1) x

-- the levels of the columns from column `first` on
level_from : (first r : ℕ) → level true (first + r) ≡ level (eqb first 0) r
level_from first r =
    ⊎_elim
    (λ later.
    level_later (first + r) (omega arith) ∙ sym (ap (λ b. level b r) (ne_eqb first 0 (omega arith))))
    (λ not_later.
    let e : first ≡ 0 = omega arith in
    let same : first + r ≡ r = omega arith in
    ap (level true) same ∙ sym (ap (λ f. level (eqb f 0) r) e))
    (cases_lt 0 first)

-- the tables of the columns from column `first` on have their levels
pub HaveLevels-columns : (tables table : List ℕ) (k rows first : ℕ) → HaveColumnSums table k → first + rows ≤ k
    → ((i r : ℕ) → i < k → r < rows → get_or tables (i * rows + r) 0 ≡ get_or table (i * k + (first + r)) 0)
    → HaveLevels tables rows k (eqb first 0)
HaveLevels-columns tables table k rows first sums few same r hr =
    field_sum_same k (row tables rows r) (row table k (first + r)) (λ i hi. same i r hi hr)
    ∙ sums (first + r) (omega arith) ∙ level_from first r
