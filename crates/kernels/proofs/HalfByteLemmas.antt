-- A product is the sum of the products with the two halves of a byte.
use Rattle.std.proofs.Common.{◌≡◌, ℕ, ◌+◌, ◌*◌, ◌/◌, ◌%◌, ◌<◌, List, get_or, true}
use Rattle.std.proofs.Common.{eqb, eqb-true, refl, sym, ap, ◌∙◌, bit_xor, subst, mod-lt, lit<}
use Rattle.std.proofs.lemmas.List.Elements.{All-from_get_or}
use Rattle.gf256.specs.Field.{field_product}
use Rattle.gf256.specs.Polynomial.{AreBytes, scaled}
use Rattle.gf256.proofs.RootLemmas.{IsByte}
use Rattle.kernels.proofs.LaneLemmas.{scaled-scaled}
use Rattle.gf256.proofs.AdditiveFunctionLemmas.{all_below, all_below-at}
use Rattle.gf256.proofs.FieldLemmas.{product-sum_right, product-one_right, product_lt}
use Rattle.gf256.proofs.RemainderLemmas.{IsRemainder-field_product}
use Rattle.gf256.proofs.LinearCombinationLemmas.{get_or-scaled}
use Rattle.kernels.specs.declared.tables.TheConstants.{HALVES}

halves_sum : all_below 256 (λ x. eqb (bit_xor (x % 16) (x / 16 * 16)) x) ≡ true
halves_sum = refl

pub halves-sum : (x : ℕ) → x < 256 → bit_xor (x % 16) (x / 16 * 16) ≡ x
halves-sum x lt = eqb-true _ _ (all_below-at 256 (λ x. eqb (bit_xor (x % 16) (x / 16 * 16)) x) halves_sum x lt)

pub product-halves : (c x : ℕ) → x < 256 → bit_xor (field_product c (x % 16)) (field_product c (x / 16 * 16)) ≡ field_product c x
product-halves c x lt =
    sym (product-sum_right c (x % 16) (x / 16 * 16))
    ∙ ap (field_product c) (halves-sum x lt)

halves_low : all_below 16 (λ x. eqb (get_or HALVES x 0) x) ≡ true
halves_low = refl

halves_high : all_below 16 (λ x. eqb (get_or HALVES (16 + x) 0) (x * 16)) ≡ true
halves_high = refl

pub half_low : (x : ℕ) → x < 16 → get_or HALVES x 0 ≡ x
half_low x lt = eqb-true _ _ (all_below-at 16 (λ x. eqb (get_or HALVES x 0) x) halves_low x lt)

pub half_high : (x : ℕ) → x < 16 → get_or HALVES (16 + x) 0 ≡ x * 16
half_high x lt = eqb-true _ _ (all_below-at 16 (λ x. eqb (get_or HALVES (16 + x) 0) (x * 16)) halves_high x lt)

-- what the tables of c hold
pub product_low : (c x : ℕ) (products : List ℕ) → products ≡ scaled c HALVES → x < 16 → get_or products x 0 ≡ field_product c x
product_low c x products are lt =
    ap (λ ps. get_or ps x 0) are
    ∙ get_or-scaled c HALVES x
    ∙ ap (field_product c) (half_low x lt)

pub product_high : (c x : ℕ) (products : List ℕ) → products ≡ scaled c HALVES → x < 16
    → get_or products (16 + x) 0 ≡ field_product c (x * 16)
product_high c x products are lt =
    ap (λ ps. get_or ps (16 + x) 0) are
    ∙ get_or-scaled c HALVES (16 + x)
    ∙ ap (field_product c) (half_high x lt)

halves_small : all_below 32 (λ n. eqb (get_or HALVES n 0 % 256) (get_or HALVES n 0)) ≡ true
halves_small = refl

HALVES_bytes : AreBytes HALVES
HALVES_bytes =
    All-from_get_or IsByte HALVES 0
    (λ i hi. subst IsByte (eqb-true _ _ (all_below-at 32 (λ n. eqb (get_or HALVES n 0 % 256) (get_or HALVES n 0)) halves_small i hi))
    (mod-lt _ (lit< tt)))

-- a coefficient is a byte, as a product
coefficient_lt : (c : ℕ) (products : List ℕ) → c ≡ get_or products 1 0 → products ≡ scaled c HALVES → c < 256
coefficient_lt c products first are =
    subst (λ x. x < 256) (sym (first ∙ ap (λ ps. get_or ps 1 0) are)) (IsRemainder-field_product c 1 (lit< tt)).fits

-- the products by a of the products by b are those by a times b, which stands at place 1
pub products_of_products : (a b : ℕ) (ps qs result : List ℕ) → a ≡ get_or ps 1 0 → b ≡ get_or qs 1 0
    → ps ≡ scaled a HALVES → qs ≡ scaled b HALVES → result ≡ scaled a qs
    → (result ≡ scaled (field_product a b) HALVES) × (get_or result 1 0 ≡ field_product a b)
products_of_products a b ps qs result is_a is_b are_ps are_qs is =
    let ha = coefficient_lt a ps is_a are_ps in
    let hb = coefficient_lt b qs is_b are_qs in
    let all : result ≡ scaled (field_product a b) HALVES = is ∙ ap (scaled a) are_qs ∙ scaled-scaled a b HALVES ha hb HALVES_bytes in
    (all, ap (λ ps. get_or ps 1 0) all ∙ product-one_right (field_product a b) (product_lt a b ha hb))
