-- The quotient of the product by one of its factors, and the row that is made of it.
use Rattle.std.proofs.Common.{◌≡◌, ◌≢◌, ℕ, zero, suc, ◌+◌, ◌-◌, add-one, ap₂, ◌<◌, ◌≤◌, ⊎_elim, List, [], ◌∷◌, length, get_or, drop}
use Rattle.std.proofs.Common.{drop-cons, drop_of_length-le, bit_xor, refl, sym, ap, subst, ◌∙◌, arith, pos_of_ne-zero}
use Rattle.std.proofs.lemmas.Bool.{cases_lt, cases_eq}
use Rattle.std.proofs.lemmas.Grind.{same_number_lists}
use Rattle.std.proofs.lemmas.List.{length-map}
use Rattle.std.proofs.lemmas.List.Elements.{All-from_get_or, All-tail, All-drop}
use Rattle.std.specs.Int.Bits.{xor_lt}
use Rattle.gf256.specs.Field.{field_product}
use Rattle.gf256.specs.Polynomial.{AreBytes, IsBasisRow, evaluate, scaled}
use Rattle.gf256.proofs.AdditiveFunctionLemmas.{eq-xor_zero}
use Rattle.gf256.proofs.FieldLemmas.{product-zero_right, zero_from_product}
use Rattle.gf256.proofs.LinearCombinationLemmas.{AreBytes-scaled}
use Rattle.gf256.proofs.RootLemmas.{IsByte, evaluate_lt, evaluate-scaled, suffix_values, length-suffix_values, factors, zero_from_roots}
use Rattle.poly.specs.Basis.{AreRows}

-- the value of a polynomial without its first m coefficients
pub evaluate-drop : (cs : List ℕ) (m x : ℕ) → m < length cs
    → evaluate (drop m cs) x ≡ bit_xor (get_or cs m 0) (field_product x (evaluate (drop (m + 1) cs) x))
unfolding evaluate
evaluate-drop cs m x hm =
    ap (λ ds. evaluate ds x) (drop-cons cs m 0 hm)
    ∙ ap (λ n. bit_xor (get_or cs m 0) (field_product x (evaluate (drop n cs) x))) (sym (add-one m))

pub evaluate-past : (cs : List ℕ) (m x : ℕ) → length cs ≤ m → evaluate (drop m cs) x ≡ 0
unfolding evaluate
evaluate-past cs m x hm = ap (λ ds. evaluate ds x) (drop_of_length-le cs hm)

get_or-suffix_values : (cs : List ℕ) (r m : ℕ) → m < length cs → get_or (suffix_values cs r) m 0 ≡ evaluate (drop m cs) r
unfolding suffix_values
get_or-suffix_values [] r m hm = absurd (omega arith)
get_or-suffix_values (c ∷ cs) r zero hm = refl
get_or-suffix_values (c ∷ cs) r (suc m) hm = get_or-suffix_values cs r m (omega arith)

-- what has these values as coefficients is the quotient
suffix_values_made : (c : ℕ) (cs : List ℕ) (r : ℕ) (row : List ℕ) → length row + 1 ≡ length (c ∷ cs)
    → ((m : ℕ) → m + 1 < length (c ∷ cs) → get_or row m 0 ≡ evaluate (drop (m + 1) (c ∷ cs)) r) → row ≡ suffix_values cs r
suffix_values_made c cs r row len each =
    same_number_lists row (suffix_values cs r) (omega (arith, length-suffix_values cs r))
    (λ m hm.
    each m (omega arith) ∙ ap (λ n. evaluate (drop n (c ∷ cs)) r) (add-one m) ∙ sym (get_or-suffix_values cs r m (omega arith)))

-- a polynomial that is 0 at r is x + r times the quotient
pub factors_at_root : (cs row : List ℕ) (x r : ℕ) → AreBytes cs → x < 256 → r < 256 → length row + 1 ≡ length cs
    → ((m : ℕ) → m + 1 < length cs → get_or row m 0 ≡ evaluate (drop (m + 1) cs) r)
    → evaluate cs r ≡ 0 → evaluate cs x ≡ 0 → field_product (bit_xor x r) (evaluate row x) ≡ 0
factors_at_root [] row x r bytes hx hr len each at_r at_x = absurd (omega arith)
factors_at_root (c ∷ cs) row x r bytes hx hr len each at_r at_x =
    ap (λ ds. field_product (bit_xor x r) (evaluate ds x)) (suffix_values_made c cs r row len each)
    ∙ sym (factors c cs x r (All-tail IsByte c cs bytes) hx hr) ∙ ap₂ bit_xor at_x at_r

-- the product of all factors, divided by that of point i
module _ (points product row : List ℕ) (i : ℕ) (rows : AreRows points product) (hi : i < length points)
    (len : length row + 1 ≡ length product)
    (each : (m : ℕ) → m + 1 < length product → get_or row m 0 ≡ evaluate (drop (m + 1) product) (get_or points i 0)) where
  point_fits : get_or points i 0 < 256
  point_fits = rows.bytes i 0 hi

  row_len : length row ≡ length points
  row_len = omega (arith, rows.whole.len)

  pub AreBytes-quotient : AreBytes row
  AreBytes-quotient =
      All-from_get_or (λ x. x < 256) row 0
      (λ m hm.
      let inside : m + 1 < length product = omega arith in
      subst (λ x. x < 256) (sym (each m inside))
      (evaluate_lt (drop (m + 1) product) (get_or points i 0) (All-drop (λ x. x < 256) (m + 1) product rows.whole.bytes) point_fits))

  zero_at : (j : ℕ) → j < length points → j ≢ i → evaluate row (get_or points j 0) ≡ 0
  zero_at j hj apart =
      let p = get_or points j 0 in
      let q = get_or points i 0 in
      let hp : p < 256 = rows.bytes j 0 hj in
      let differ : p ≢ q =
      λ e. ⊎_elim (λ low. rows.distinct j i 0 low hi e) (λ high. rows.distinct i j 0 (omega arith) hj (sym e)) (cases_lt j i) in
      zero_from_product (bit_xor p q) (evaluate row p) (pos_of_ne-zero (λ e. differ (eq-xor_zero p q e)))
      (xor_lt 8 p q hp point_fits) (evaluate_lt row p AreBytes-quotient hp)
      (factors_at_root product row p q rows.whole.bytes hp point_fits len each (rows.whole.zero i hi) (rows.whole.zero j hj))

  -- the highest coefficient is 1, so the quotient is not zero
  highest : get_or row (length points - 1) 0 ≡ 1
  highest =
      let m = length points - 1 in
      let e : m + 1 ≡ length points = omega arith in
      let inside : m + 1 < length product = omega (arith, rows.whole.len) in
      each m inside ∙ evaluate-drop product (m + 1) (get_or points i 0) inside
      ∙ ap₂ bit_xor (ap (λ n. get_or product n 0) e ∙ rows.whole.highest)
      (ap (field_product (get_or points i 0)) (evaluate-past product (m + 1 + 1) (get_or points i 0) (omega (arith, rows.whole.len)))
      ∙ product-zero_right (get_or points i 0))

  pub not_zero : evaluate row (get_or points i 0) ≢ 0
  not_zero e =
      let zeros = zero_from_roots row points AreBytes-quotient rows.bytes rows.distinct row_len
      (All-from_get_or (λ p. evaluate row p ≡ 0) points 0
      (λ k hk.
      ⊎_elim (λ same. ap (λ j. evaluate row (get_or points j 0)) same ∙ e) (λ apart. zero_at k hk apart) (cases_eq k i))) in
      let none : get_or row (length points - 1) 0 ≡ 0 = zeros (length points - 1) 0 (omega (arith, row_len)) in
      omega (arith, none, highest)

  pub IsBasisRow-scaled : (factor : ℕ) → factor < 256 → field_product factor (evaluate row (get_or points i 0)) ≡ 1
      → IsBasisRow points i (scaled factor row)
  IsBasisRow-scaled factor hf unit = record {
    len = length-map row (field_product factor) ∙ row_len;
    bytes = AreBytes-scaled factor row hf AreBytes-quotient;
    one = evaluate-scaled factor row (get_or points i 0) hf AreBytes-quotient point_fits ∙ unit;
    zero = λ j hj apart.
        evaluate-scaled factor row (get_or points j 0) hf AreBytes-quotient (rows.bytes j 0 hj)
        ∙ ap (field_product factor) (zero_at j hj apart) ∙ product-zero_right factor;
  }
