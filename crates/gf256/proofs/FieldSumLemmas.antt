-- Sums in the field, and a polynomial's value as the sum of its terms.
use Rattle.std.proofs.Common.{◌≡◌, ◌≢◌, ℕ, zero, suc, ◌<◌, List, [], ◌∷◌, length, get_or, bit_xor, refl, sym, ap, ap₂, ◌∙◌, arith, ⊎_elim}
use Rattle.std.specs.Int.Bits.{xor_assoc, xor_zero_r}
use Rattle.std.proofs.lemmas.Bool.{cases_lt}
use Rattle.std.proofs.lemmas.List.Elements.{All-head, All-tail}
use Rattle.gf256.specs.Field.{field_product, field_power, field_sum}
use Rattle.gf256.specs.Polynomial.{AreBytes, evaluate}
use Rattle.gf256.proofs.FieldLemmas.{product_assoc, product-zero_right, product-one_left, product-sum_right, power_lt, power-zero}
use Rattle.gf256.proofs.FieldLemmas.{power-suc}
use Rattle.gf256.proofs.RootLemmas.{IsByte}

pub field_sum-suc : (n : ℕ) (f : ℕ → ℕ) → field_sum (suc n) f ≡ bit_xor (field_sum n f) (f n)
unfolding field_sum
field_sum-suc n f = refl

pub field_sum_zero : (n : ℕ) (f : ℕ → ℕ) → ((i : ℕ) → i < n → f i ≡ 0) → field_sum n f ≡ 0
unfolding field_sum
field_sum_zero zero f h = refl
field_sum_zero (suc n) f h = ap₂ bit_xor (field_sum_zero n f (λ i hi. h i (omega arith))) (h n (omega arith))

-- a sum with one term that is not zero
pub field_sum_one : (n : ℕ) (f : ℕ → ℕ) (j : ℕ) → j < n → ((i : ℕ) → i < n → i ≢ j → f i ≡ 0) → field_sum n f ≡ f j
unfolding field_sum
field_sum_one zero f j hj h = absurd (omega arith)
field_sum_one (suc n) f j hj h =
    ⊎_elim
    (λ low. ap₂ bit_xor (field_sum_one n f j low (λ i hi apart. h i (omega arith) apart)) (h n (omega arith) (omega arith))
    ∙ xor_zero_r (f j))
    (λ high. let e : n ≡ j = omega arith in
    ap (λ x. bit_xor x (f n)) (field_sum_zero n f (λ i hi. h i (omega arith) (omega arith))) ∙ ap f e)
    (cases_lt j n)

pub field_sum_same : (n : ℕ) (f g : ℕ → ℕ) → ((i : ℕ) → i < n → f i ≡ g i) → field_sum n f ≡ field_sum n g
unfolding field_sum
field_sum_same zero f g h = refl
field_sum_same (suc n) f g h = ap₂ bit_xor (field_sum_same n f g (λ i hi. h i (omega arith))) (h n (omega arith))

-- a sum with its first term apart
field_sum_first : (n : ℕ) (f : ℕ → ℕ) → field_sum (suc n) f ≡ bit_xor (f 0) (field_sum n (λ i. f (suc i)))
unfolding field_sum
field_sum_first zero f = sym (xor_zero_r (f 0))
field_sum_first (suc n) f =
    ap (λ x. bit_xor x (f (suc n))) (field_sum_first n f) ∙ xor_assoc (f 0) (field_sum n (λ i. f (suc i))) (f (suc n))

field_product-field_sum : (x n : ℕ) (f : ℕ → ℕ) → field_product x (field_sum n f) ≡ field_sum n (λ i. field_product x (f i))
unfolding field_sum
field_product-field_sum x zero f = product-zero_right x
field_product-field_sum x (suc n) f =
    product-sum_right x (field_sum n f) (f n) ∙ ap (λ y. bit_xor y (field_product x (f n))) (field_product-field_sum x n f)

-- the value of a polynomial is the sum of its coefficients times the powers of x
pub evaluate-field_sum : (cs : List ℕ) (x : ℕ) → AreBytes cs → x < 256
    → evaluate cs x ≡ field_sum (length cs) (λ j. field_product (field_power x j) (get_or cs j 0))
unfolding evaluate field_sum
evaluate-field_sum [] x hc hx = refl
evaluate-field_sum (c ∷ cs) x hc hx =
    let rest : AreBytes cs = All-tail IsByte c cs hc in
    let first : field_product (field_power x 0) c ≡ c = ap (λ y. field_product y c) (power-zero x)
    ∙ product-one_left c (All-head IsByte c cs hc) in
    ap (λ y. bit_xor c (field_product x y)) (evaluate-field_sum cs x rest hx)
    ∙ ap₂ bit_xor (sym first)
    (field_product-field_sum x (length cs) (λ j. field_product (field_power x j) (get_or cs j 0))
    ∙ field_sum_same (length cs)
    (λ j. field_product x (field_product (field_power x j) (get_or cs j 0)))
    (λ j. field_product (field_power x (suc j)) (get_or cs j 0))
    (λ j hj.
    sym (product_assoc x (field_power x j) (get_or cs j 0) hx (power_lt x j hx) (rest j 0 hj))
    ∙ ap (λ y. field_product y (get_or cs j 0)) (sym (power-suc x j))))
    ∙ sym (field_sum_first (length cs) (λ j. field_product (field_power x j) (get_or (c ∷ cs) j 0)))
