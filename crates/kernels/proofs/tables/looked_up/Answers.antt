use Rattle.std.proofs.Common.{◌≡◌, ℕ, ◌+◌, ◌*◌, ◌/◌, ◌%◌, ◌^◌, ◌<◌, List, length}
use Rattle.std.proofs.Common.{get_or, replicate, refl, ap, ap₂, sym, ◌∙◌, arith, w8, bit_xor}
use lib.Bits.{bit_and, and_le_r, and_mask}
use lib.Lanes.{zip2, Each1}
use Rattle.std.proofs.lemmas.List.{ext_get_or, get_or-map, length-map}
use Rattle.std.proofs.lemmas.Simd.{SwzOk, swz_l, SwzOk-from_below, Each1-zip2, Each2-splat, Each1-all}
use Rattle.std.proofs.lemmas.Simd.{Each1-get_or, length-zip2, length-swz_l}
use Rattle.std.proofs.lemmas.Simd.{get_or-swz_l_below, get_or-zip2, get_or-replicate, below_from_Fits}
use Rattle.gf256.specs.Field.{field_product}
use Rattle.gf256.specs.Polynomial.{scaled}
use Rattle.kernels.specs.declared.tables.TheConstants.{HALVES}
use Rattle.kernels.proofs.HalfByteLemmas.{product-halves, product_low, product_high}
use Rattle.kernels.proofs.tables.looked_up.Goals as goal

lower_half_small : (v : List ℕ) → length v ≡ 32 → Each1 (λ j. j < 16) (zip2 bit_and v (replicate 32 15))
lower_half_small v long = Each1-zip2 bit_and (λ j. j < 16) v (replicate 32 15) (Each2-splat (λ a b. bit_and a b < 16) v 32 15 (Each1-all
    (λ a. bit_and a 15 < 16) (λ a. omega (arith, and_le_r a 15)) v))

lower_half_within : (v : List ℕ) → length v ≡ 32 → SwzOk w8 16 32 0 (zip2 bit_and v (replicate 32 15))
lower_half_within v long = SwzOk-from_below w8 16 2 32 0 (zip2 bit_and v (replicate 32 15)) refl (omega (
  arith,
  length-zip2 bit_and v
      (replicate 32 15) long,
)) (lower_half_small v long)

pub swizzle : goal.swizzle
swizzle c = lower_half_within c.args.lanes c.fits-lanes.0

pub swizzle-2 : goal.swizzle-2
swizzle-2 c = lower_half_within _ (length-zip2 _ c.args.lanes (replicate 32 4) c.fits-lanes.0 ∙ c.fits-lanes.0)

-- what a table gives at lane i, whose lower half is the place in it
picked : (f : ℕ → ℕ) (table v : List ℕ) → length v ≡ 32 → ((k : ℕ) → k < 32 → get_or table k 0 ≡ f (k % 16))
    → (i : ℕ) → i < 32 → get_or (swz_l w8 16 table 0 (zip2 bit_and v (replicate 32 15))) i 0 ≡ f (get_or v i 0 % 16)
picked f table v long is i lt =
    let js = zip2 bit_and v (replicate 32 15) in
    let wide = length-zip2 bit_and v (replicate 32 15) long ∙ long in
    let j : get_or js i 0 ≡ get_or v i 0 % 16 =
    get_or-zip2 bit_and v (replicate 32 15) i 0 0 0 (omega arith) lt ∙ ap (bit_and (get_or v i 0)) (get_or-replicate 32 i 15 0 lt)
    ∙ and_mask (get_or v i 0) 4 in
    get_or-swz_l_below w8 16 table 0 js i (omega arith) (omega arith)
    ∙ is (16 * ((0 + i) / 16) + get_or js i 0) (omega arith)
    ∙ ap f (omega arith ∙ j)

-- the lanes that are looked up in the second table
shifted : List ℕ → List ℕ
shifted v = zip2 (λ a b. a / 2 ^ b) v (replicate 32 4)

length-shifted : (v : List ℕ) → length v ≡ 32 → length (shifted v) ≡ 32
unfolding shifted
length-shifted v long = length-zip2 (λ a b. a / 2 ^ b) v (replicate 32 4) long ∙ long

get_or-shifted : (v : List ℕ) → length v ≡ 32 → (i : ℕ) → i < 32 → get_or (shifted v) i 0 ≡ get_or v i 0 / 16
unfolding shifted
get_or-shifted v long i lt =
    get_or-zip2 (λ a b. a / 2 ^ b) v (replicate 32 4) i 0 0 0 (omega arith) lt
    ∙ ap (λ s. get_or v i 0 / 2 ^ s) (get_or-replicate 32 i 4 0 lt)

found : List ℕ → List ℕ → List ℕ
found table v = swz_l w8 16 table 0 (zip2 bit_and v (replicate 32 15))

length-found : (table v : List ℕ) → length v ≡ 32 → length (found table v) ≡ 32
unfolding found
length-found table v long = length-swz_l w8 16 table 0 (zip2 bit_and v (replicate 32 15))
    ∙ length-zip2 bit_and v (replicate 32 15) long ∙ long

product_by_tables : (c : ℕ) (products low high v : List ℕ) → products ≡ scaled c HALVES → length v ≡ 32 → Each1 (λ x. x < 256) v
    → ((k : ℕ) → k < 32 → get_or low k 0 ≡ get_or products (k % 16) 0)
    → ((k : ℕ) → k < 32 → get_or high k 0 ≡ get_or products (16 + k % 16) 0)
    → zip2 bit_xor (found low v) (found high (shifted v)) ≡ scaled c v
unfolding found
product_by_tables c products low high v are long bytes is_low is_high =
    let l = length-found low v long in
    let h = length-found high (shifted v) (length-shifted v long) in
    let n = length-zip2 bit_xor (found low v) (found high (shifted v)) (l ∙ sym h) ∙ l in
    ext_get_or 0 (zip2 bit_xor (found low v) (found high (shifted v))) (scaled c v) (n ∙ sym (length-map v (field_product c) ∙ long))
    (λ i at.
    let lt : i < 32 = omega arith in
    let x = get_or v i 0 in
    let byte : x < 256 = Each1-get_or (λ x. x < 256) v i 0 (omega arith) bytes in
    let top : get_or (shifted v) i 0 % 16 ≡ x / 16 = ap (λ y. y % 16) (get_or-shifted v long i lt) ∙ omega arith in
    get_or-zip2 bit_xor (found low v) (found high (shifted v)) i 0 0 0 (omega arith) (omega arith)
    ∙ ap₂ bit_xor
    (picked (field_product c) low v long (λ k hk. is_low k hk ∙ product_low c (k % 16) products are (omega arith)) i lt)
    (picked (λ y. field_product c (y * 16)) high (shifted v) (length-shifted v long) (λ k hk. is_high k hk
    ∙ product_high c (k % 16) products are (omega arith)) i lt
    ∙ ap (λ y. field_product c (y * 16)) top)
    ∙ product-halves c x byte
    ∙ sym (get_or-map (field_product c) v i 0 0 (omega arith)))

pub returns : goal.returns
unfolding found shifted
returns c =
    let products = c.args.products.now in
    product_by_tables (get_or products 1 0) products c.twice-low.result c.twice-high.result c.args.lanes c.requires c.fits-lanes.0
    (below_from_Fits w8 c.args.lanes c.fits-lanes.1) (λ k hk. c.twice-low.ensures k hk
    ∙ ap (λ m. get_or products m 0) (omega arith)) c.twice-high.ensures
