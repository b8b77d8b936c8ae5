-- A vector's lanes times constants, and the sums of two blocks.
use Rattle.std.proofs.Common.{◌≡◌, ℕ, ◌+◌, ◌<◌, ◌≤◌, length, List, [], ◌∷◌, replicate, get_or, refl, sym, ap, ap₂, ◌∙◌, arith, w8}
use Rattle.std.specs.Int.Bits.{bit_xor}
use Rattle.std.proofs.lemmas.List.Elements.{All-nil, All-cons, All-head, All-tail}
use Rattle.std.proofs.lemmas.List.{length-map}
use Rattle.std.proofs.lemmas.Simd.{length-chunk, get_or-chunk, length-zip2, get_or-zip2}
use Rattle.gf256.specs.Field.{field_product}
use Rattle.gf256.specs.Polynomial.{AreBytes, scaled}
use Rattle.gf256.proofs.FieldLemmas.{product-zero_left, product-one_left, product-sum_left, product_assoc}
use Rattle.gf256.proofs.RootLemmas.{IsByte}
use Rattle.gf256.proofs.LinearCombinationLemmas.{get_or-scaled}
use lib.Lanes.{zip2, chunk, Each1}
use mir.Val.{Fits}

pub AreBytes-from_lanes : (xs : List ℕ) → Each1 (Fits w8) xs → AreBytes xs
AreBytes-from_lanes [] h = All-nil IsByte
AreBytes-from_lanes (x ∷ xs) h = All-cons IsByte x xs h.0.fits (AreBytes-from_lanes xs h.1)

pub scaled-zero : (xs : List ℕ) → replicate (length xs) 0 ≡ scaled 0 xs
scaled-zero [] = refl
scaled-zero (x ∷ xs) = ap₂ (λ y ys. y ∷ ys) (sym (product-zero_left x)) (scaled-zero xs)

pub scaled-one : (xs : List ℕ) → AreBytes xs → scaled 1 xs ≡ xs
scaled-one [] bytes = refl
scaled-one (x ∷ xs) bytes =
    ap₂ (λ y ys. y ∷ ys) (product-one_left x (All-head IsByte x xs bytes)) (scaled-one xs (All-tail IsByte x xs bytes))

pub zip2-scaled : (a b : ℕ) (xs : List ℕ) → zip2 bit_xor (scaled a xs) (scaled b xs) ≡ scaled (bit_xor a b) xs
zip2-scaled a b [] = refl
zip2-scaled a b (x ∷ xs) = ap₂ (λ y ys. y ∷ ys) (sym (product-sum_left a b x)) (zip2-scaled a b xs)

pub scaled-scaled : (a b : ℕ) (xs : List ℕ) → a < 256 → b < 256 → AreBytes xs → scaled a (scaled b xs) ≡ scaled (field_product a b) xs
scaled-scaled a b [] ha hb bytes = refl
scaled-scaled a b (x ∷ xs) ha hb bytes =
    ap₂ (λ y ys. y ∷ ys) (sym (product_assoc a b x ha hb (All-head IsByte x xs bytes)))
    (scaled-scaled a b xs ha hb (All-tail IsByte x xs bytes))

-- a block of 32 bytes: a times those of xs, plus b times those of ys
unfoldable pub block_sum : ℕ → ℕ → ℕ → List ℕ → List ℕ → List ℕ
block_sum a b start xs ys = zip2 bit_xor (scaled a (chunk start 32 xs)) (scaled b (chunk start 32 ys))

length-scaled_chunk : (a start : ℕ) (xs : List ℕ) → start + 32 ≤ length xs → length (scaled a (chunk start 32 xs)) ≡ 32
length-scaled_chunk a start xs fits = length-map (chunk start 32 xs) (field_product a) ∙ length-chunk start 32 xs fits

get_or-scaled_chunk : (a start : ℕ) (xs : List ℕ) (n : ℕ) → n < 32 →
    get_or (scaled a (chunk start 32 xs)) n 0 ≡ field_product a (get_or xs (start + n) 0)
get_or-scaled_chunk a start xs n hn = get_or-scaled a (chunk start 32 xs) n ∙ ap (field_product a) (get_or-chunk start 32 xs n 0 hn)

pub length-block_sum : (a b start : ℕ) (xs ys : List ℕ) → start + 32 ≤ length xs → start + 32 ≤ length ys →
    length (block_sum a b start xs ys) ≡ 32
unfolding block_sum
length-block_sum a b start xs ys fx fy =
    length-zip2 bit_xor (scaled a (chunk start 32 xs)) (scaled b (chunk start 32 ys))
    (length-scaled_chunk a start xs fx ∙ sym (length-scaled_chunk b start ys fy))
    ∙ length-scaled_chunk a start xs fx

pub get_or-block_sum : (a b start : ℕ) (xs ys : List ℕ) (n : ℕ) → start + 32 ≤ length xs → start + 32 ≤ length ys → n < 32 →
    get_or (block_sum a b start xs ys) n 0 ≡ bit_xor (field_product a (get_or xs (start + n) 0)) (field_product b (get_or ys (start + n) 0))
unfolding block_sum
get_or-block_sum a b start xs ys n fx fy hn =
    get_or-zip2 bit_xor (scaled a (chunk start 32 xs)) (scaled b (chunk start 32 ys)) n 0 0 0
    (omega (arith, length-scaled_chunk a start xs fx)) (omega (arith, length-scaled_chunk b start ys fy))
    ∙ ap₂ bit_xor (get_or-scaled_chunk a start xs n hn) (get_or-scaled_chunk b start ys n hn)
