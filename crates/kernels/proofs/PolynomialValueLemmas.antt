-- The values of the polynomial whose coefficients are the sources, from its last coefficient on.
use Rattle.std.proofs.Common.{◌≡◌, ℕ, ◌+◌, ◌<◌, List, [], length, get_or, map, drop, bit_xor}
use Rattle.std.proofs.Common.{sym, ap, ◌∙◌, arith, zero-le, subst}
use Rattle.std.specs.Borrow.{Bor}
use Rattle.std.specs.Int.Bits.{xor_zero_r, xor_comm}
use Rattle.std.proofs.Math.Seq.{drop-length}
use Rattle.std.proofs.lemmas.List.{drop_more, get_or-map, length-map}
use Rattle.std.proofs.lemmas.List.Elements.{All-from_get_or}
use Rattle.gf256.specs.Field.{field_product, field_power, field_sum}
use Rattle.gf256.specs.Polynomial.{evaluate}
use Rattle.gf256.proofs.FieldLemmas.{product-zero_right}
use Rattle.gf256.proofs.FieldSumLemmas.{evaluate-field_sum, field_sum_same}
use Rattle.kernels.specs.Dot.{bytes_of, term, dot_byte, lanes_from}
use Rattle.kernels.specs.Line.{HasBytes, value_from}
use Rattle.kernels.proofs.LaneSumLemmas.{no_slice, bytes_at, get_or-lanes_from}

-- byte b of each source
column : List (List ℕ) → ℕ → List ℕ
column sources b = map (λ s. get_or s b 0) sources

get_or-column : (sources : List (List ℕ)) (b j : ℕ) → j < length sources → get_or (column sources b) j 0 ≡ get_or (get_or sources j []) b 0
unfolding column
get_or-column sources b j hj = get_or-map (λ s. get_or s b 0) sources j [] 0 hj

length-column : (sources : List (List ℕ)) (b : ℕ) → length (column sources b) ≡ length sources
unfolding column
length-column sources b = length-map sources (λ s. get_or s b 0)

pub value_from-step : (sources : List (List ℕ)) (x b j : ℕ) → j < length sources
    → value_from sources x b j ≡ bit_xor (get_or (get_or sources j []) b 0) (field_product x (value_from sources x b (j + 1)))
unfolding value_from evaluate column
value_from-step sources x b j hj =
    let cs = column sources b in
    ap (λ l. evaluate l x) (drop_more cs j 0 (omega (arith, hj, length-column sources b)))
    ∙ ap (λ y. bit_xor y (field_product x (evaluate (drop (j + 1) cs) x))) (get_or-column sources b j hj)

value_from-end : (sources : List (List ℕ)) (x b j : ℕ) → j ≡ length sources → value_from sources x b j ≡ 0
unfolding value_from evaluate column
value_from-end sources x b j end =
    ap (λ n. evaluate (drop n (column sources b)) x) (end ∙ sym (length-column sources b))
    ∙ ap (λ l. evaluate l x) (drop-length (column sources b))

value_from-last : (sources : List (List ℕ)) (x b j : ℕ) → j + 1 ≡ length sources
    → value_from sources x b j ≡ get_or (get_or sources j []) b 0
value_from-last sources x b j last =
    let f = get_or (get_or sources j []) b 0 in
    value_from-step sources x b j (omega arith)
    ∙ ap (λ y. bit_xor f (field_product x y)) (value_from-end sources x b (j + 1) last)
    ∙ ap (bit_xor f) (product-zero_right x) ∙ xor_zero_r f

-- the line of the last two sources
pub last_two : (sources : List (List ℕ)) (x b j : ℕ) → j + 2 ≡ length sources
    → bit_xor (field_product x (get_or (get_or sources (j + 1) []) b 0)) (get_or (get_or sources j []) b 0) ≡ value_from sources x b j
last_two sources x b j last =
    let f = get_or (get_or sources j []) b 0 in
    xor_comm (field_product x (get_or (get_or sources (j + 1) []) b 0)) f
    ∙ ap (λ y. bit_xor f (field_product x y)) (sym (value_from-last sources x b (j + 1) (omega arith)))
    ∙ sym (value_from-step sources x b j (omega arith))

-- and of one source
pub last_one : (sources : List (List ℕ)) (x b j : ℕ) → j + 1 ≡ length sources
    → bit_xor (field_product x 0) (get_or (get_or sources j []) b 0) ≡ value_from sources x b j
last_one sources x b j last =
    let f = get_or (get_or sources j []) b 0 in
    xor_comm (field_product x 0) f ∙ ap (bit_xor f) (product-zero_right x) ∙ xor_zero_r f
    ∙ sym (value_from-last sources x b j last)

-- from the first source on it is the sum by the powers of x
pub value_from-all : (sources : List (List ℕ)) (x b : ℕ) → x < 256 → HasBytes sources b 0
    → value_from sources x b 0 ≡ dot_byte (field_power x) sources b
unfolding value_from dot_byte column
value_from-all sources x b hx bytes =
    let cs = column sources b in
    let len = length-column sources b in
    evaluate-field_sum cs x
    (All-from_get_or (λ y. y < 256) cs 0
    (λ j hj. let low : j < length sources = omega (arith, hj, len) in
    subst (λ y. y < 256) (sym (get_or-column sources b j low)) (bytes j zero-le low))) hx
    ∙ ap (λ n. field_sum n (λ j. field_product (field_power x j) (get_or cs j 0))) len
    ∙ field_sum_same (length sources) (λ j. field_product (field_power x j) (get_or cs j 0)) (term (field_power x) sources b)
    (λ j hj. ap (field_product (field_power x j)) (get_or-column sources b j hj))

-- what is loaded from a source
pub loaded : (slices : List (Bor (List ℕ))) (j start i : ℕ) (lanes : List ℕ) → j < length slices
    → lanes ≡ lanes_from (λ n. get_or (get_or slices j no_slice).now n 0) start → i < 32
    → get_or lanes i 0 ≡ get_or (get_or (bytes_of slices) j []) (start + i) 0
loaded slices j start i lanes hj is hi =
    ap (λ l. get_or l i 0) is ∙ get_or-lanes_from (λ n. get_or (get_or slices j no_slice).now n 0) start i hi
    ∙ ap (λ s. get_or s (start + i) 0) (bytes_at slices j no_slice hj)
