-- One step of the loops of `mul` and `pow`.
use Rattle.std.proofs.Common.{◌≡◌, ℕ, suc, ◌+◌, ◌*◌, ◌/◌, ◌%◌, ◌^◌, ◌<◌, bit_xor, refl, sym, ap, ◌∙◌}
use Rattle.std.proofs.Common.{true, eqb, eqb-true, arith, mod-lt, pow_pos, one-mul, zero-mul}
use Rattle.std.specs.Int.Bits.{xor_comm, xor_shifted, xor_zero_r}
use Rattle.std.specs.Int.{bit_at}
use Rattle.std.proofs.lemmas.Nat.{mod-pow-add}
use Rattle.gf256.specs.Field.{field_product, field_power, remainder, polynomial_product}
use Rattle.gf256.proofs.AdditiveFunctionLemmas.{all_below, all_below-at}
use Rattle.gf256.proofs.FieldLemmas.{product_assoc, power_lt, power-suc, power-square}

-- x^i is the power i of x, by computing
powers_of_two : all_below 8 (λ i. eqb (field_power 2 i) (2 ^ i)) ≡ true
unfolding field_power field_product remainder polynomial_product
powers_of_two = refl

power_of_two : (i : ℕ) → i < 8 → field_power 2 i ≡ 2 ^ i
power_of_two i hi = eqb-true _ _ (all_below-at 8 (λ i. eqb (field_power 2 i) (2 ^ i)) powers_of_two i hi)

-- the low bits, with one more
low_bits_more : (a i : ℕ) → a % 2 ^ (i + 1) ≡ bit_xor (a % 2 ^ i) (bit_at a i * 2 ^ i)
low_bits_more a i =
    let e : i + 1 ≡ 1 + i = omega arith in
    ap (λ k. a % 2 ^ k) e ∙ mod-pow-add a 1 i
    ∙ sym (xor_shifted (bit_at a i) i (a % 2 ^ i) (mod-lt a (pow_pos i)))
    ∙ xor_comm (bit_at a i * 2 ^ i) (a % 2 ^ i)

pub low_bits_set : (a i : ℕ) → i < 8 → bit_at a i ≡ 1 → a % 2 ^ (i + 1) ≡ bit_xor (a % 2 ^ i) (field_power 2 i)
low_bits_set a i hi set = grind (arith, bit_xor, low_bits_more, one-mul, power_of_two)

pub low_bits_clear : (a i : ℕ) → bit_at a i ≡ 0 → a % 2 ^ (i + 1) ≡ a % 2 ^ i
low_bits_clear a i clear =
    low_bits_more a i ∙ ap (λ d. bit_xor (a % 2 ^ i) (d * 2 ^ i)) clear ∙ ap (bit_xor (a % 2 ^ i)) (zero-mul (2 ^ i))
    ∙ xor_zero_r (a % 2 ^ i)

-- the base is squared and the exponent halved
pub power_half_even : (base left : ℕ) → base < 256 → left % 2 ≡ 0 → field_power (field_product base base) (left / 2) ≡ field_power base left
power_half_even base left hb even = grind (arith, power-square)

pub power_half_odd : (product base left : ℕ) → product < 256 → base < 256 → left % 2 ≡ 1 →
    field_product (field_product product base) (field_power (field_product base base) (left / 2))
    ≡ field_product product (field_power base left)
power_half_odd product base left hp hb odd =
    let e : suc (left / 2 * 2) ≡ left = omega arith in
    ap (field_product (field_product product base)) (power-square base (left / 2) hb)
    ∙ product_assoc product base (field_power base (left / 2 * 2)) hp hb (power_lt base (left / 2 * 2) hb)
    ∙ ap (field_product product) (sym (power-suc base (left / 2 * 2)) ∙ ap (field_power base) e)
