-- The table of products of halves, and a coefficient's products from it.
use Rattle.std.proofs.Common.{◌≡◌, ℕ, ◌+◌, ◌*◌, ◌/◌, ◌%◌, ◌<◌, List, length, get_or, bit_xor, Bool, true, eqb, eqb-true}
use Rattle.std.proofs.Common.{refl, sym, ap, ap₂, ◌∙◌, arith}
use lib.Lanes.{zip2}
use Rattle.std.proofs.lemmas.List.{ext_get_or, length-map}
use Rattle.std.proofs.lemmas.Simd.{get_or-zip2, length-zip2}
use Rattle.gf256.specs.Field.{field_product, polynomial_product, remainder}
use Rattle.gf256.specs.Polynomial.{scaled}
use Rattle.gf256.proofs.AdditiveFunctionLemmas.{all_below, all_below-at}
use Rattle.gf256.proofs.FieldLemmas.{product-sum_left}
use Rattle.gf256.proofs.LinearCombinationLemmas.{get_or-scaled}
use Rattle.kernels.specs.Dot.{lanes_from}
use Rattle.kernels.specs.declared.products.TheConstants.{PRODUCTS}
use Rattle.kernels.specs.declared.tables.TheConstants.{HALVES}
use Rattle.kernels.proofs.HalfByteLemmas.{half_low, half_high, halves-sum}
use Rattle.kernels.proofs.LaneSumLemmas.{get_or-lanes_from, length-lanes_from}

-- the table holds the product of these halves
abbrev holds : ℕ → ℕ → Bool
holds j h = eqb (get_or PRODUCTS (j * 32 + h) 0) (field_product (get_or HALVES j 0) (get_or HALVES h 0))

table_holds : all_below 32 (λ j. all_below 32 (holds j)) ≡ true
unfolding field_product polynomial_product remainder
table_holds = refl

product_at : (j h : ℕ) → j < 32 → h < 32
    → get_or PRODUCTS (j * 32 + h) 0 ≡ field_product (get_or HALVES j 0) (get_or HALVES h 0)
product_at j h hj hh = eqb-true _ _ (all_below-at 32 (holds j) (all_below-at 32 (λ j. all_below 32 (holds j)) table_holds j hj) h hh)

-- the products of one half, as lanes
half_products : (j i : ℕ) (lanes : List ℕ) → j < 32 → i < 32 → lanes ≡ lanes_from (λ n. get_or PRODUCTS n 0) (j * 32)
    → get_or lanes i 0 ≡ field_product (get_or HALVES j 0) (get_or HALVES i 0)
half_products j i lanes hj hi is =
    ap (λ l. get_or l i 0) is ∙ get_or-lanes_from (λ n. get_or PRODUCTS n 0) (j * 32) i hi ∙ product_at j i hj hi

-- the products of both halves of a coefficient make its own
pub products_summed : (c : ℕ) (low high : List ℕ) → c < 256 → low ≡ lanes_from (λ n. get_or PRODUCTS n 0) (c % 16 * 32)
    → high ≡ lanes_from (λ n. get_or PRODUCTS n 0) ((16 + c / 16) * 32) → zip2 bit_xor low high ≡ scaled c HALVES
products_summed c low high hc is_low is_high =
    let l : length low ≡ 32 = ap length is_low ∙ length-lanes_from (λ n. get_or PRODUCTS n 0) (c % 16 * 32) in
    let h : length high ≡ 32 = ap length is_high ∙ length-lanes_from (λ n. get_or PRODUCTS n 0) ((16 + c / 16) * 32) in
    let n = length-zip2 bit_xor low high (l ∙ sym h) ∙ l in
    ext_get_or 0 (zip2 bit_xor low high) (scaled c HALVES) (n ∙ sym (length-map HALVES (field_product c)))
    (λ i at.
    let hi : i < 32 = omega arith in
    get_or-zip2 bit_xor low high i 0 0 0 (omega arith) (omega arith)
    ∙ ap₂ bit_xor
    (half_products (c % 16) i low (omega arith) hi is_low ∙ ap (λ x. field_product x (get_or HALVES i 0)) (half_low (c % 16) (omega arith)))
    (half_products (16 + c / 16) i high (omega arith) hi is_high
    ∙ ap (λ x. field_product x (get_or HALVES i 0)) (half_high (c / 16) (omega arith)))
    ∙ sym (product-sum_left (c % 16) (c / 16 * 16) (get_or HALVES i 0))
    ∙ ap (λ x. field_product x (get_or HALVES i 0)) (halves-sum c hc)
    ∙ sym (get_or-scaled c HALVES i))
