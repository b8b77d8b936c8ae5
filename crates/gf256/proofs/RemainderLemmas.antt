-- `remainder` is the remainder: it has degree below 8, and the polynomial is a multiple of the modulus plus it.
use Rattle.std.proofs.Common.{◌≡◌, ℕ, zero, suc, ◌+◌, ◌*◌, ◌/◌, ◌%◌, ◌^◌, ◌<◌, ◌≤◌, bit_xor, refl, sym, ap, ap₂, subst}
use Rattle.std.proofs.Common.{◌∙◌, arith, lit<, pow-suc, pow_pos, zero-mul, one-mul, zero-add, mul-le-mul_right}
use Rattle.std.proofs.Common.{le_refl, mod-eq_of_lt, mod-lt, div-lt_iff_lt-mul, div-add-mod', ⊎_elim}
use Rattle.std.proofs.Math.Nat.{sub_self, mul-lt-mul_of_pos_right}
use Rattle.std.proofs.lemmas.Bool.{cases_lt}
use Rattle.std.specs.Int.{bit_at}
use Rattle.std.specs.Int.Bits.{xor_assoc, xor_comm, xor_zero_r, xor_lt, xor_block}
use Rattle.std.proofs.lemmas.Nat.{pow-add}
use Rattle.std.proofs.lemmas.Nat.Bits.{bit_at-lt, bit_at_cat_low, bit_at_cat_high, bit_at_lowest}
use Rattle.gf256.specs.Field.{modulus, polynomial_product, remainder, field_product, IsRemainder}
use Rattle.gf256.proofs.AdditiveFunctionLemmas.{xor_cancel}

-- only the bits below n of the first polynomial count
polynomial_product_same : (n a c b : ℕ) → ((i : ℕ) → i < n → bit_at a i ≡ bit_at c i) → polynomial_product n a b ≡ polynomial_product n c b
unfolding polynomial_product
polynomial_product_same zero a c b h = refl
polynomial_product_same (suc n) a c b h =
    ap₂ bit_xor (polynomial_product_same n a c b (λ i hi. h i (omega arith))) (ap (λ d. d * (b * 2 ^ n)) (h n (omega arith)))

-- what is taken away at the term n
abbrev pub reduced : ℕ → ℕ → ℕ
reduced n p = bit_xor p (bit_at p (8 + n) * (modulus * 2 ^ n))

pub quotient : ℕ → ℕ → ℕ
quotient zero p = 0
quotient (suc n) p = bit_at p (8 + n) * 2 ^ n + quotient n (reduced n p)

quotient_lt : (n p : ℕ) → quotient n p < 2 ^ n
unfolding quotient
quotient_lt zero p = omega arith
quotient_lt (suc n) p =
    let bit : bit_at p (8 + n) ≤ 1 = omega (arith, bit_at-lt p (8 + n)) in
    omega (arith, mul-le-mul_right (2 ^ n) bit, one-mul (2 ^ n), quotient_lt n (reduced n p), pow-suc 2 n)

pub division : (n p : ℕ) → p ≡ bit_xor (polynomial_product n (quotient n p) modulus) (remainder n p)
unfolding quotient polynomial_product remainder
division zero p = refl
division (suc n) p =
    let bit = bit_at p (8 + n) in
    let q = quotient n (reduced n p) in
    let high : bit_at (bit * 2 ^ n + q) n ≡ bit =
    bit_at_cat_high bit n q n (quotient_lt n (reduced n p)) (le_refl n)
    ∙ ap (bit_at bit) (sub_self n) ∙ bit_at_lowest bit ∙ mod-eq_of_lt (bit_at-lt p (8 + n)) in
    let low : polynomial_product n (bit * 2 ^ n + q) modulus ≡ polynomial_product n q modulus =
    polynomial_product_same n (bit * 2 ^ n + q) q modulus (λ i hi. bit_at_cat_low bit n q i hi) in
    let away = bit * (modulus * 2 ^ n) in
    let x = polynomial_product n q modulus in
    let r = remainder n (reduced n p) in
    sym (xor_cancel away p) ∙ ap (bit_xor away) (xor_comm away p ∙ division n (reduced n p))
    ∙ sym (xor_assoc away x r) ∙ ap (λ y. bit_xor y r) (xor_comm away x)
    ∙ sym (ap₂ (λ y d. bit_xor (bit_xor y (d * (modulus * 2 ^ n))) r) low high)

zero_times : (x y : ℕ) → 0 * x + y ≡ y
zero_times x y = ap (λ z. z + y) (zero-mul x) ∙ zero-add y

-- the degree falls by one
reduced_lt : (n p : ℕ) → p < 2 ^ (8 + suc n) → reduced n p < 2 ^ (8 + n)
reduced_lt n p fits =
    let h = 8 + n in
    let twice : 2 ^ (8 + suc n) ≡ 2 * 2 ^ h = omega (arith, pow-add 2 8 (suc n), pow-add 2 8 n, pow-suc 2 n) in
    let top : p / 2 ^ h < 2 = (div-lt_iff_lt-mul (pow_pos h)).1 (omega arith) in
    let bit : bit_at p h ≡ p / 2 ^ h = mod-eq_of_lt top in
    let rest : p % 2 ^ h < 2 ^ h = mod-lt p (pow_pos h) in
    let split : p / 2 ^ h * 2 ^ h + p % 2 ^ h ≡ p = div-add-mod' p (2 ^ h) in
    ⊎_elim
    (λ clear.
    let none : p / 2 ^ h ≡ 0 = omega arith in
    let low : p < 2 ^ h = subst (λ x. x < 2 ^ h)
    (sym (ap (λ d. d * 2 ^ h + p % 2 ^ h) none ∙ zero_times (2 ^ h) (p % 2 ^ h)) ∙ split) rest in
    subst (λ x. x < 2 ^ h)
    (sym (ap (λ d. bit_xor p (d * (modulus * 2 ^ n))) (bit ∙ none) ∙ ap (bit_xor p) (zero-mul (modulus * 2 ^ n)) ∙ xor_zero_r p)) low)
    (λ set.
    let one : p / 2 ^ h ≡ 1 = omega arith in
    let below : 29 * 2 ^ n < 2 ^ h = omega (arith, pow-add 2 8 n, pow_pos n) in
    let apart : modulus * 2 ^ n ≡ 1 * 2 ^ h + 29 * 2 ^ n = omega (arith, pow-add 2 8 n) in
    let is : reduced n p ≡ 0 * 2 ^ h + bit_xor (p % 2 ^ h) (29 * 2 ^ n) =
    ap₂ bit_xor (sym split ∙ ap (λ d. d * 2 ^ h + p % 2 ^ h) one)
    (ap (λ d. d * (modulus * 2 ^ n)) (bit ∙ one) ∙ one-mul (modulus * 2 ^ n) ∙ apart)
    ∙ xor_block h 1 1 (p % 2 ^ h) (29 * 2 ^ n) rest below in
    subst (λ x. x < 2 ^ h) (sym (is ∙ zero_times (2 ^ h) (bit_xor (p % 2 ^ h) (29 * 2 ^ n))))
    (xor_lt h (p % 2 ^ h) (29 * 2 ^ n) rest below))
    (cases_lt (p / 2 ^ h) 1)

pub remainder_lt : (n p : ℕ) → p < 2 ^ (8 + n) → remainder n p < 2 ^ 8
unfolding remainder
remainder_lt zero p fits = fits
remainder_lt (suc n) p fits = remainder_lt n (reduced n p) (reduced_lt n p fits)

-- the product of two bytes has degree below 15
polynomial_product_lt : (n a b : ℕ) → b < 256 → polynomial_product n a b < 2 ^ (7 + n)
unfolding polynomial_product
polynomial_product_lt zero a b hb = lit< tt
polynomial_product_lt (suc n) a b hb =
    let before : polynomial_product n a b < 2 ^ (8 + n) = omega (arith, polynomial_product_lt n a b hb, pow-add 2 7 n, pow-add 2 8 n) in
    let bit : bit_at a n ≤ 1 = omega (arith, bit_at-lt a n) in
    let byte : b * 2 ^ n < 2 ^ (8 + n) = omega (arith, mul-lt-mul_of_pos_right hb (pow_pos n), pow-add 2 8 n) in
    let term : bit_at a n * (b * 2 ^ n) < 2 ^ (8 + n) = omega (arith, mul-le-mul_right (b * 2 ^ n) bit, one-mul (b * 2 ^ n)) in
    let e : 8 + n ≡ 7 + suc n = omega arith in
    subst (λ m. bit_xor (polynomial_product n a b) (bit_at a n * (b * 2 ^ n)) < 2 ^ m) e
    (xor_lt (8 + n) (polynomial_product n a b) (bit_at a n * (b * 2 ^ n)) before term)

pub IsRemainder-field_product : (a b : ℕ) → b < 256 → IsRemainder (polynomial_product 8 a b) (field_product a b)
unfolding field_product
IsRemainder-field_product a b hb =
    let p = polynomial_product 8 a b in
    record { quotient = quotient 7 p; fits = remainder_lt 7 p (polynomial_product_lt 8 a b hb); division = division 7 p }
