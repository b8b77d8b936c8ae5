-- The rows of Lagrange's basis at distinct points: the row i is 1 at the point i and 0 at each other point.
use Rattle.std.proofs.Common.{◌≡◌, ◌≢◌, ℕ, zero, suc, ◌+◌, ◌-◌, ◌<◌, ◌≤◌, List, [], ◌∷◌, length, get_or}
use Rattle.std.proofs.Common.{bit_xor, All, refl, sym, ap, ◌∙◌, subst, arith, lit<, ⊎_elim, pos_of_ne-zero}
use Rattle.std.specs.Int.Bits.{xor_self, xor_lt}
use Rattle.std.proofs.lemmas.Bool.{cases_lt, cases_eq}
use Rattle.std.proofs.lemmas.List.{length-map}
use Rattle.std.proofs.lemmas.List.Edits.{length-remove, get_or-remove_below, get_or-remove_above}
use Rattle.std.specs.List.{remove}
use Rattle.std.proofs.lemmas.List.Elements.{All-nil, All-cons, All-head, All-tail, All-from_get_or}
use Rattle.gf256.specs.Field.{field_product}
use Rattle.gf256.specs.Polynomial.{AreBytes, AreDistinct, evaluate, sum_of, scaled, IsBasisRow}
use Rattle.gf256.proofs.AdditiveFunctionLemmas.{eq-xor_zero}
use Rattle.gf256.proofs.FieldLemmas.{product-zero_left, product-zero_right, product-one_right}
use Rattle.gf256.proofs.FieldLemmas.{product-sum_left, product-inverse, inverse_lt, inverse}
use Rattle.gf256.proofs.RootLemmas.{IsByte, evaluate-sum_of, evaluate-scaled, same_from_values, length-sum_of, AreBytes-sum_of}
use Rattle.gf256.proofs.LinearCombinationLemmas.{AreBytes-scaled}

-- x + q times a polynomial
unfoldable pub times_root : ℕ → List ℕ → List ℕ
times_root q cs = sum_of (0 ∷ cs) (scaled q cs)

pub length-times_root : (q : ℕ) (cs : List ℕ) → length (times_root q cs) ≡ suc (length cs)
unfolding times_root
length-times_root q cs = length-sum_of (0 ∷ cs) (scaled q cs) (omega (arith, length-map cs (field_product q)))

pub AreBytes-times_root : (q : ℕ) (cs : List ℕ) → q < 256 → AreBytes cs → AreBytes (times_root q cs)
unfolding times_root
AreBytes-times_root q cs hq hc = AreBytes-sum_of _ _ (All-cons IsByte 0 cs (lit< tt) hc) (AreBytes-scaled q cs hq hc)

pub evaluate-times_root : (q : ℕ) (cs : List ℕ) (x : ℕ) → q < 256 → AreBytes cs → x < 256
    → evaluate (times_root q cs) x ≡ field_product (bit_xor x q) (evaluate cs x)
unfolding times_root evaluate
evaluate-times_root q cs x hq hc hx = grind (arith, bit_xor, evaluate-scaled, evaluate-sum_of, product-sum_left)

-- the polynomial that is 1 at p and 0 at each of the others
basis_over : List ℕ → ℕ → List ℕ
basis_over [] p = 1 ∷ []
basis_over (q ∷ qs) p = scaled (inverse (bit_xor p q)) (times_root q (basis_over qs p))

length-basis_over : (qs : List ℕ) (p : ℕ) → length (basis_over qs p) ≡ suc (length qs)
unfolding basis_over
length-basis_over [] p = refl
length-basis_over (q ∷ qs) p =
    length-map (times_root q (basis_over qs p)) (field_product (inverse (bit_xor p q)))
    ∙ length-times_root q (basis_over qs p) ∙ ap suc (length-basis_over qs p)

AreBytes-basis_over : (qs : List ℕ) (p : ℕ) → AreBytes qs → p < 256 → AreBytes (basis_over qs p)
unfolding basis_over
AreBytes-basis_over [] p hqs hp = All-cons IsByte 1 [] (lit< tt) (All-nil IsByte)
AreBytes-basis_over (q ∷ qs) p hqs hp =
    let hq : q < 256 = All-head IsByte q qs hqs in
    AreBytes-scaled _ _ (inverse_lt (bit_xor p q) (xor_lt 8 p q hp hq))
    (AreBytes-times_root q _ hq (AreBytes-basis_over qs p (All-tail IsByte q qs hqs) hp))

evaluate-basis_over : (q : ℕ) (qs : List ℕ) (p x : ℕ) → AreBytes (q ∷ qs) → p < 256 → x < 256 →
    evaluate (basis_over (q ∷ qs) p) x ≡ field_product (inverse (bit_xor p q)) (field_product (bit_xor x q) (evaluate (basis_over qs p) x))
unfolding basis_over
evaluate-basis_over q qs p x hqs hp hx =
    let hq : q < 256 = All-head IsByte q qs hqs in
    let rest : AreBytes (basis_over qs p) = AreBytes-basis_over qs p (All-tail IsByte q qs hqs) hp in
    evaluate-scaled (inverse (bit_xor p q)) (times_root q (basis_over qs p)) x
    (inverse_lt (bit_xor p q) (xor_lt 8 p q hp hq)) (AreBytes-times_root q (basis_over qs p) hq rest) hx
    ∙ ap (field_product (inverse (bit_xor p q))) (evaluate-times_root q (basis_over qs p) x hq rest hx)

basis_over_one : (qs : List ℕ) (p : ℕ) → AreBytes qs → p < 256 → All (λ s. p ≢ s) qs → evaluate (basis_over qs p) p ≡ 1
unfolding basis_over evaluate
basis_over_one [] p hqs hp apart = ap (bit_xor 1) (product-zero_right p)
basis_over_one (q ∷ qs) p hqs hp apart =
    let hq : q < 256 = All-head IsByte q qs hqs in
    let pq : 0 < bit_xor p q = pos_of_ne-zero (λ e. All-head (λ s. p ≢ s) q qs apart (eq-xor_zero p q e)) in
    let hpq : bit_xor p q < 256 = xor_lt 8 p q hp hq in
    evaluate-basis_over q qs p p hqs hp hp
    ∙ ap (λ z. field_product (inverse (bit_xor p q)) (field_product (bit_xor p q) z))
    (basis_over_one qs p (All-tail IsByte q qs hqs) hp (All-tail (λ s. p ≢ s) q qs apart))
    ∙ ap (field_product (inverse (bit_xor p q))) (product-one_right (bit_xor p q) hpq)
    ∙ product-inverse (bit_xor p q) pq hpq

basis_over_zero : (qs : List ℕ) (p : ℕ) → AreBytes qs → p < 256 → All (λ s. p ≢ s) qs → (k : ℕ) → k < length qs →
    evaluate (basis_over qs p) (get_or qs k 0) ≡ 0
basis_over_zero [] p hqs hp apart k hk = absurd (omega arith)
basis_over_zero (q ∷ qs) p hqs hp apart zero hk =
    evaluate-basis_over q qs p q hqs hp (All-head IsByte q qs hqs)
    ∙ ap (λ z. field_product (inverse (bit_xor p q)) (field_product z (evaluate (basis_over qs p) q))) (xor_self q)
    ∙ ap (field_product (inverse (bit_xor p q))) (product-zero_left (evaluate (basis_over qs p) q))
    ∙ product-zero_right (inverse (bit_xor p q))
basis_over_zero (q ∷ qs) p hqs hp apart (suc k) hk =
    evaluate-basis_over q qs p (get_or qs k 0) hqs hp (All-tail IsByte q qs hqs k 0 (omega arith))
    ∙ ap (λ z. field_product (inverse (bit_xor p q)) (field_product (bit_xor (get_or qs k 0) q) z))
    (basis_over_zero qs p (All-tail IsByte q qs hqs) hp (All-tail (λ s. p ≢ s) q qs apart) k (omega arith))
    ∙ ap (field_product (inverse (bit_xor p q))) (product-zero_right (bit_xor (get_or qs k 0) q))
    ∙ product-zero_right (inverse (bit_xor p q))

distinct_at : (points : List ℕ) → AreDistinct points → (i j : ℕ) → i < length points → j < length points → i ≢ j →
    get_or points i 0 ≢ get_or points j 0
distinct_at points distinct i j hi hj apart e = grind arith

-- the row i of Lagrange's basis at the points
pub basis_row : List ℕ → ℕ → List ℕ
basis_row points i = basis_over (remove points i) (get_or points i 0)

module _ (points : List ℕ) (bytes : AreBytes points) (distinct : AreDistinct points) where
  -- what holds at each other point holds of each other element
  All-others : (P : ℕ → Type 0) (i : ℕ) → i < length points → ((j : ℕ) → j < length points → j ≢ i → P (get_or points j 0)) →
      All P (remove points i)
  All-others P i hi h =
      All-from_get_or P (remove points i) 0
      (λ k hk.
      ⊎_elim
      (λ low. subst P (sym (get_or-remove_below points i 0 k low hi)) (h k (omega arith) (omega arith)))
      (λ high. subst P (sym (get_or-remove_above points i 0 k high hi))
      (h (k + 1) (omega (arith, length-remove points i hi)) (omega arith)))
      (cases_lt k i))

  others_apart : (i : ℕ) → i < length points → All (λ q. get_or points i 0 ≢ q) (remove points i)
  others_apart i hi =
      All-others (λ q. get_or points i 0 ≢ q) i hi (λ j hj apart. distinct_at points distinct i j hi hj (λ e. apart (sym e)))

  others_bytes : (i : ℕ) → i < length points → AreBytes (remove points i)
  others_bytes i hi = All-others (λ q. q < 256) i hi (λ j hj apart. bytes j 0 hj)

  pub AreBytes-basis_row : (i : ℕ) → i < length points → AreBytes (basis_row points i)
  unfolding basis_row
  AreBytes-basis_row i hi = AreBytes-basis_over (remove points i) (get_or points i 0) (others_bytes i hi) (bytes i 0 hi)

  pub IsBasisRow-basis_row : (i : ℕ) → i < length points → IsBasisRow points i (basis_row points i)
  unfolding basis_row
  IsBasisRow-basis_row i hi =
      let zero_at : (k : ℕ) → k < length (remove points i) →
      evaluate (basis_over (remove points i) (get_or points i 0)) (get_or (remove points i) k 0) ≡ 0 =
      basis_over_zero (remove points i) (get_or points i 0) (others_bytes i hi) (bytes i 0 hi) (others_apart i hi) in
      record {
        len = omega (arith, length-basis_over (remove points i) (get_or points i 0), length-remove points i hi);
        bytes = AreBytes-basis_over (remove points i) (get_or points i 0) (others_bytes i hi) (bytes i 0 hi);
        one = basis_over_one (remove points i) (get_or points i 0) (others_bytes i hi) (bytes i 0 hi) (others_apart i hi);
        zero = λ j hj apart.
            ⊎_elim
            (λ low.
            ap (evaluate (basis_over (remove points i) (get_or points i 0))) (sym (get_or-remove_below points i 0 j low hi))
            ∙ zero_at j (omega (arith, length-remove points i hi)))
            (λ high.
            let e : j - 1 + 1 ≡ j = omega arith in
            let above : i ≤ j - 1 = omega arith in
            ap (λ k. evaluate (basis_over (remove points i) (get_or points i 0)) (get_or points k 0)) (sym e)
            ∙ ap (evaluate (basis_over (remove points i) (get_or points i 0))) (sym (get_or-remove_above points i 0 (j - 1) above hi))
            ∙ zero_at (j - 1) (omega (arith, length-remove points i hi)))
            (cases_lt j i);
      }

  -- there is one row i
  pub IsBasisRow-unique : (i : ℕ) (r s : List ℕ) → i < length points → IsBasisRow points i r → IsBasisRow points i s → r ≡ s
  IsBasisRow-unique i r s hi row other =
      same_from_values r s points row.bytes other.bytes bytes distinct row.len other.len
      (All-from_get_or (λ p. evaluate r p ≡ evaluate s p) points 0
      (λ k hk.
      ⊎_elim (λ same. ap (λ j. evaluate r (get_or points j 0)) same ∙ row.one ∙ sym other.one
      ∙ ap (λ j. evaluate s (get_or points j 0)) (sym same))
      (λ apart. row.zero k hk apart ∙ sym (other.zero k hk apart))
      (cases_eq k i)))
