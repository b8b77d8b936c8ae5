-- The tables of powers of x and of logarithms to them.
use Rattle.std.proofs.Common.{◌≡◌, ℕ, zero, suc, ◌+◌, ◌-◌, ◌<◌, true, get_or, eqb, eqb-true, ltb, ltb-true}
use Rattle.std.proofs.Common.{refl, sym, ap, ap₂, ◌∙◌, arith, lit<}
use Rattle.gf256.specs.Field.{field_product, field_power, remainder, polynomial_product}
use Rattle.gf256.specs.declared.logarithms.TheConstants.{LOGARITHMS, POWERS}
use Rattle.gf256.proofs.AdditiveFunctionLemmas.{all_below, all_below-at}
use Rattle.gf256.proofs.FieldLemmas.{power-zero, power-suc, power-add}

-- by computing: each power is the one before it times x
steps : all_below 508 (λ i. eqb (get_or POWERS (suc i) 0) (field_product 2 (get_or POWERS i 0))) ≡ true
unfolding field_product remainder polynomial_product
steps = refl

-- by computing: the power at an element's logarithm is the element
backs : all_below 255 (λ i. eqb (get_or POWERS (get_or LOGARITHMS (suc i) 0) 0) (suc i)) ≡ true
backs = refl

smalls : all_below 256 (λ i. ltb (get_or LOGARITHMS i 0) 255) ≡ true
smalls = refl

pub logarithm_lt : (a : ℕ) → a < 256 → get_or LOGARITHMS a 0 < 255
logarithm_lt a ha = ltb-true _ _ (all_below-at 256 (λ i. ltb (get_or LOGARITHMS i 0) 255) smalls a ha)

pub power_at : (i : ℕ) → i < 509 → get_or POWERS i 0 ≡ field_power 2 i
power_at zero hi = sym (power-zero 2)
power_at (suc i) hi =
    eqb-true _ _ (all_below-at 508 (λ i. eqb (get_or POWERS (suc i) 0) (field_product 2 (get_or POWERS i 0))) steps i (omega arith))
    ∙ ap (field_product 2) (power_at i (omega arith)) ∙ sym (power-suc 2 i)

-- an element that is not zero is a power of x
pub power_of_logarithm : (a : ℕ) → 0 < a → a < 256 → field_power 2 (get_or LOGARITHMS a 0) ≡ a
power_of_logarithm zero some ha = absurd (omega arith)
power_of_logarithm (suc i) some ha =
    sym (power_at (get_or LOGARITHMS (suc i) 0) (omega (arith, logarithm_lt (suc i) ha)))
    ∙ eqb-true _ _ (all_below-at 255 (λ i. eqb (get_or POWERS (get_or LOGARITHMS (suc i) 0) 0) (suc i)) backs i (omega arith))

pub product_of_powers : (a b m n : ℕ) → field_power 2 m ≡ a → field_power 2 n ≡ b → field_power 2 (m + n) ≡ field_product a b
product_of_powers a b m n at_m at_n = power-add 2 m n (lit< tt) ∙ ap₂ field_product at_m at_n

-- x^255 is 1
pub product-of_inverse_power : (a l : ℕ) → l < 255 → field_power 2 l ≡ a → field_product (field_power 2 (255 - l)) a ≡ 1
product-of_inverse_power a l lt at_l =
    let back : 255 - l + l ≡ 255 = omega arith in
    ap (field_product (field_power 2 (255 - l))) (sym at_l)
    ∙ sym (power-add 2 (255 - l) l (lit< tt)) ∙ ap (field_power 2) back ∙ sym (power_at 255 (omega arith))
