-- Lines that stand for polynomials at two points.
use Rattle.std.proofs.Common.{◌≡◌, ℕ, ◌+◌, ◌*◌, ◌/◌, ◌%◌, ◌<◌, bit_xor, sym, ap, ◌∙◌}
use Rattle.std.proofs.Common.{true, Bool, eqb, eqb-true, refl, arith, subst}
use Rattle.std.specs.Int.Bits.{xor_comm, xor_assoc}
use Rattle.gf256.specs.Field.{field_product, remainder, polynomial_product}
use Rattle.gf256.proofs.AdditiveFunctionLemmas.{all_below, all_below-at}
use Rattle.gf256.proofs.FieldLemmas.{product-sum_left, product-sum_right, product_assoc, product_lt, product-one_left}
use Rattle.kernels.specs.Line.{IsRoot, IsPair}

-- two pairs of summands, with one of each changed over
crossed : (a b f c : ℕ) → bit_xor (bit_xor a b) (bit_xor f c) ≡ bit_xor f (bit_xor (bit_xor a c) b)
crossed a b f c =
    xor_comm (bit_xor a b) (bit_xor f c) ∙ xor_assoc f c (bit_xor a b)
    ∙ ap (bit_xor f) (sym (xor_assoc c a b) ∙ ap (λ y. bit_xor y b) (xor_comm c a))

-- x times a line, at a root, is a line again
pub line_times : (c x slope level block : ℕ) → IsRoot c x → slope < 256
    → bit_xor (field_product x (bit_xor slope level)) (bit_xor block (field_product c slope))
    ≡ bit_xor block (field_product x (bit_xor (field_product x slope) level))
line_times c x slope level block root fits =
    let xs = field_product x slope in
    ap (λ y. bit_xor y (bit_xor block (field_product c slope))) (product-sum_right x slope level)
    ∙ crossed xs (field_product x level) block (field_product c slope)
    ∙ ap (bit_xor block)
    (ap (λ y. bit_xor y (field_product x level))
    (sym (product-sum_left x c slope) ∙ ap (λ y. field_product y slope) (sym root.square)
    ∙ product_assoc x x slope root.point root.point fits)
    ∙ sym (product-sum_right x xs level))

-- the second point of a pair is the sum of the first and 1
evens : all_below 128 (λ p. eqb (p * 2 + 1) (bit_xor (p * 2) 1)) ≡ true
evens = refl

pub even_next : (u : ℕ) → u < 256 → u % 2 ≡ 0 → u + 1 ≡ bit_xor u 1
even_next u fits even =
    let half : u / 2 * 2 ≡ u = omega arith in
    ap (λ n. n + 1) (sym half)
    ∙ eqb-true _ _ (all_below-at 128 (λ p. eqb (p * 2 + 1) (bit_xor (p * 2) 1)) evens (u / 2) (omega arith))
    ∙ ap (λ n. bit_xor n 1) half

-- both points of a pair are roots
pair_test : ℕ → Bool
pair_test x = eqb (field_product x x) (bit_xor x (field_product (x / 2 * 2) (x / 2 * 2 + 1)))

pairs : all_below 256 pair_test ≡ true
unfolding field_product remainder polynomial_product pair_test
pairs = refl

pub IsRoot-pair : (u c r : ℕ) → IsPair u c → IsRoot c (u + r % 2)
unfolding pair_test
IsRoot-pair u c r pair =
    let x = u + r % 2 in
    let fits = pair.fits in
    let even = pair.even in
    let half : x / 2 * 2 ≡ u = omega arith in
    let point : x < 256 = omega arith in
    record {
      point = point;
      coefficient = subst (λ y. y < 256) (sym pair.product) (product_lt u (u + 1) fits (omega arith));
      square = eqb-true _ _ (all_below-at 256 pair_test pairs x point)
          ∙ ap (λ n. bit_xor x (field_product n (n + 1))) half ∙ ap (bit_xor x) (sym pair.product);
    }

-- the value of a line at the second point of a pair, from that at the first
pub second_point : (u slope level : ℕ) → u < 256 → u % 2 ≡ 0 → slope < 256
    → bit_xor (bit_xor (field_product u slope) level) slope ≡ bit_xor (field_product (u + 1) slope) level
second_point u slope level fits even byte =
    let us = field_product u slope in
    xor_assoc us level slope ∙ ap (bit_xor us) (xor_comm level slope) ∙ sym (xor_assoc us slope level)
    ∙ ap (λ y. bit_xor y level)
    (ap (bit_xor us) (sym (product-one_left slope byte)) ∙ sym (product-sum_left u 1 slope)
    ∙ ap (λ y. field_product y slope) (sym (even_next u fits even)))
