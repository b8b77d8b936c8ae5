-- Sums of products whose coefficients sum up to a level, by the sources' differences from the first one.
use Rattle.std.proofs.Common.{◌≡◌, ℕ, zero, suc, ◌+◌, ◌*◌, ◌<◌, ◌&&◌, ◌==◌, Bool, true, false, if◌then◌else◌, List, [], length, get_or}
use Rattle.std.proofs.Common.{sym, ap, ap₂, ◌∙◌, bit_xor, arith, set, replicate, ⊎_elim}
use Rattle.std.specs.Int.Bits.{xor_assoc, xor_zero_r, xor_comm, xor_self}
use Rattle.std.specs.List.{range_with_len}
use Rattle.std.proofs.lemmas.Bool.{cases_lt, ne_eqb}
use Rattle.std.proofs.lemmas.Grind.{get_or-set_at}
use Rattle.std.proofs.lemmas.List.{get_or-replicate, length-replicate, get_or-set_other}
use Rattle.std.proofs.lemmas.Simd.{zip2_of_maps, map-map}
use Rattle.gf256.specs.Field.{field_product, field_sum}
use Rattle.gf256.specs.Polynomial.{scaled}
use Rattle.gf256.proofs.AdditiveFunctionLemmas.{xor-xor, xor_cancel}
use Rattle.gf256.proofs.FieldLemmas.{product-zero_left, product-zero_right, product-one_left, product-sum_left, product-sum_right}
use Rattle.kernels.specs.Dot.{dot_byte, row, term, lanes_from}
use Rattle.kernels.specs.Level.{HaveLevels, level}
use Rattle.kernels.proofs.LaneSumLemmas.{get_or-zeros, get_or-lanes_from, length-lanes_from, same_as_lanes_from}
use Rattle.kernels.proofs.RowSumLemmas.{AreRows, rows_more}
use lib.Lanes.{zip2}

-- byte b of source j
abbrev byte_of : List (List ℕ) → ℕ → ℕ → ℕ
byte_of sources j b = get_or (get_or sources j []) b 0

-- coefficient j times the difference of byte b of source j from that of the first
abbrev apart : (ℕ → ℕ) → List (List ℕ) → ℕ → ℕ → ℕ
apart cs sources b j = field_product (cs j) (bit_xor (byte_of sources j b) (byte_of sources 0 b))

-- the sum of the differences of the first j sources, and the first one times l
abbrev level_sum : (ℕ → ℕ) → ℕ → List (List ℕ) → ℕ → ℕ → ℕ
level_sum cs l sources j b = bit_xor (field_product l (byte_of sources 0 b)) (field_sum j (apart cs sources b))

apart_split : (cs : ℕ → ℕ) (sources : List (List ℕ)) (b n : ℕ)
    → field_sum n (apart cs sources b) ≡ bit_xor (field_sum n (term cs sources b)) (field_product (field_sum n cs) (byte_of sources 0 b))
unfolding field_sum
apart_split cs sources b zero = sym (product-zero_left (byte_of sources 0 b))
apart_split cs sources b (suc n) =
    let x = byte_of sources 0 b in
    ap₂ bit_xor (apart_split cs sources b n) (product-sum_right (cs n) (byte_of sources n b) x)
    ∙ xor-xor (field_sum n (term cs sources b)) (field_product (field_sum n cs) x) (term cs sources b n) (field_product (cs n) x)
    ∙ ap (bit_xor (bit_xor (field_sum n (term cs sources b)) (term cs sources b n))) (sym (product-sum_left (field_sum n cs) (cs n) x))

-- where the coefficients sum up to l, it is the sum of the products
level_sum-dot : (cs : ℕ → ℕ) (l : ℕ) (sources : List (List ℕ)) (b : ℕ) → field_sum (length sources) cs ≡ l
    → level_sum cs l sources (length sources) b ≡ dot_byte cs sources b
unfolding dot_byte
level_sum-dot cs l sources b sums =
    let x = byte_of sources 0 b in
    let all = field_sum (length sources) (term cs sources b) in
    let from = field_product l x in
    ap (bit_xor from) (apart_split cs sources b (length sources) ∙ ap (λ s. bit_xor all (field_product s x)) sums ∙ xor_comm all from)
    ∙ xor_cancel from all

lanes_same : (f g : ℕ → ℕ) (start : ℕ) → ((n : ℕ) → f n ≡ g n) → lanes_from f start ≡ lanes_from g start
lanes_same f g start same =
    same_as_lanes_from g start (lanes_from f start) (length-lanes_from f start)
    (λ i hi. get_or-lanes_from f start i hi ∙ same (start + i))

-- what `made` is for the sums of differences
abbrev pub level_lanes : List ℕ → ℕ → Bool → List (List ℕ) → ℕ → ℕ → ℕ → List ℕ
level_lanes tables rows one sources start q j = lanes_from (level_sum (row tables rows q) (level one q) sources j) start

-- the difference of source j from the first one, times its coefficient
scaled_difference : (cs : ℕ → ℕ) (sources : List (List ℕ)) (start j : ℕ) (lanes origin : List ℕ)
    → lanes ≡ lanes_from (byte_of sources j) start → origin ≡ lanes_from (byte_of sources 0) start
    → scaled (cs j) (zip2 bit_xor lanes origin) ≡ lanes_from (λ b. apart cs sources b j) start
unfolding lanes_from
scaled_difference cs sources start j lanes origin at from =
    let places = range_with_len 0 32 in
    let difference : ℕ → ℕ = λ i. bit_xor (byte_of sources j (start + i)) (byte_of sources 0 (start + i)) in
    ap (scaled (cs j))
    (zip2_of_maps bit_xor (λ i. byte_of sources j (start + i)) (λ i. byte_of sources 0 (start + i)) places at from)
    ∙ map-map (field_product (cs j)) difference places

-- one more source
added : (f g : ℕ → ℕ) (start : ℕ) (sum product : List ℕ) → sum ≡ lanes_from f start → product ≡ lanes_from g start
    → zip2 bit_xor sum product ≡ lanes_from (λ b. bit_xor (f b) (g b)) start
unfolding lanes_from
added f g start sum product is more =
    zip2_of_maps bit_xor (λ i. f (start + i)) (λ i. g (start + i)) (range_with_len 0 32) is more

level_sum_more : (cs : ℕ → ℕ) (l : ℕ) (sources : List (List ℕ)) (j b : ℕ)
    → bit_xor (level_sum cs l sources j b) (apart cs sources b j) ≡ level_sum cs l sources (suc j) b
unfolding field_sum
level_sum_more cs l sources j b =
    xor_assoc (field_product l (byte_of sources 0 b)) (field_sum j (apart cs sources b)) (apart cs sources b j)

one_more : (n : ℕ) → suc n ≡ n + 1
one_more n = omega arith

-- one more row of one more source
pub level_more : (sums : List (List ℕ)) (rows : ℕ) (tables : List ℕ) (one : Bool) (sources : List (List ℕ)) (start j r : ℕ)
    (product lanes origin source first : List ℕ) (c : ℕ)
    → AreRows sums rows (level_lanes tables rows one sources start) j r → r < rows
    → product ≡ scaled c (zip2 bit_xor lanes origin) → c ≡ row tables rows r j
    → lanes ≡ lanes_from (λ n. get_or source n 0) start → source ≡ get_or sources j []
    → origin ≡ lanes_from (λ n. get_or first n 0) start → first ≡ get_or sources 0 []
    → AreRows (set sums r (zip2 bit_xor (get_or sums r []) product)) rows (level_lanes tables rows one sources start) j (r + 1)
level_more sums rows tables one sources start j r product lanes origin source first c known hr is coefficient loaded at origin_is first_is =
    let cs = row tables rows r in
    let l = level one r in
    rows_more sums rows (level_lanes tables rows one sources start) j r (zip2 bit_xor (get_or sums r []) product) known hr
    (added (level_sum cs l sources j) (λ b. apart cs sources b j) start (get_or sums r []) product (known.left r (omega arith) hr)
    (is ∙ ap (λ n. scaled n (zip2 bit_xor lanes origin)) coefficient
    ∙ scaled_difference cs sources start j lanes origin
    (loaded ∙ ap (λ (s : List ℕ). lanes_from (λ n. get_or s n 0) start) at)
    (origin_is ∙ ap (λ (s : List ℕ). lanes_from (λ n. get_or s n 0) start) first_is))
    ∙ lanes_same (λ b. bit_xor (level_sum cs l sources j b) (apart cs sources b j)) (level_sum cs l sources (suc j)) start
    (level_sum_more cs l sources j)
    ∙ ap (λ n. lanes_from (level_sum cs l sources n) start) (one_more j))

pub level_zero : (r : ℕ) → r ≡ 0 → level true r ≡ 1
level_zero r e = ap (level true) e

pub level_later : (r : ℕ) → 0 < r → level true r ≡ 0
level_later r h = ap (λ (b : Bool). if b then 1 else 0) (ne_eqb r 0 (omega arith))

-- the first source is put into row 0
pub first_put : (rows : ℕ) (origin : List ℕ) (one : Bool) (r i : ℕ) → one ≡ true → r < rows → i < 32
    → get_or (get_or (set (replicate rows (replicate 32 0)) 0 origin) r []) i 0 ≡ level one r * get_or origin i 0
first_put rows origin one r i is_one hr hi =
    let none = replicate rows (replicate {A = ℕ} 32 0) in
    ⊎_elim
    (λ later.
    ap (λ (l : List ℕ). get_or l i 0) (get_or-set_other none 0 r origin [] (omega arith) ∙ get_or-replicate rows r _ [] hr)
    ∙ get_or-zeros 32 i
    ∙ let l : level one r ≡ 0 = ap (λ b. level b r) is_one ∙ level_later r later in
    omega (arith, ap (λ n. n * get_or origin i 0) l))
    (λ not_later.
    let e : r ≡ 0 = omega arith in
    ap (λ (l : List ℕ). get_or l i 0) (get_or-set_at none 0 r origin [] e (omega (arith, length-replicate rows (replicate {A = ℕ} 32 0))))
    ∙ let l : level one r ≡ 1 = ap (λ b. level b r) is_one ∙ level_zero r e in
    omega (arith, ap (λ n. n * get_or origin i 0) l))
    (cases_lt 0 r)

-- or into none
pub first_left : (rows : ℕ) (origin : List ℕ) (one : Bool) (r i : ℕ) → one ≡ false → r < rows
    → get_or (get_or (replicate rows (replicate 32 0)) r []) i 0 ≡ level one r * get_or origin i 0
first_left rows origin one r i is_none hr =
    ap (λ (l : List ℕ). get_or l i 0) (get_or-replicate rows r _ [] hr) ∙ get_or-zeros 32 i
    ∙ let l : level one r ≡ 0 = ap (λ b. level b r) is_none in
    omega (arith, ap (λ n. n * get_or origin i 0) l)

-- the first source is times 0 or 1
times_level : (one : Bool) (r x : ℕ) → x < 256 → level one r * x ≡ field_product (level one r) x
times_level one r x hx = times_either (one && r == 0) x hx
  where
    times_either : (b : Bool) (x : ℕ) → x < 256 → (if b then 1 else 0) * x ≡ field_product (if b then 1 else 0) x
    times_either true x hx = omega arith ∙ sym (product-one_left x hx)
    times_either false x hx = omega arith ∙ sym (product-zero_left x)

-- nothing is apart from itself
level_sum_one : (cs : ℕ → ℕ) (l : ℕ) (sources : List (List ℕ)) (b : ℕ)
    → level_sum cs l sources 1 b ≡ field_product l (byte_of sources 0 b)
unfolding field_sum
level_sum_one cs l sources b =
    let x = byte_of sources 0 b in
    ap (λ d. bit_xor (field_product l x) (bit_xor 0 (field_product (cs 0) d))) (xor_self x)
    ∙ ap (λ p. bit_xor (field_product l x) (bit_xor 0 p)) (product-zero_right (cs 0))
    ∙ xor_zero_r (field_product l x)

-- before any other source
pub level_first : (sums : List (List ℕ)) (rows : ℕ) (tables : List ℕ) (one : Bool) (sources : List (List ℕ)) (start : ℕ)
    (origin first : List ℕ)
    → length sums ≡ rows → ((r : ℕ) → r < rows → length (get_or sums r []) ≡ 32)
    → ((r i : ℕ) → r < rows → i < 32 → get_or (get_or sums r []) i 0 ≡ level one r * get_or origin i 0)
    → ((i : ℕ) → i < 32 → get_or origin i 0 < 256)
    → origin ≡ lanes_from (λ n. get_or first n 0) start → first ≡ get_or sources 0 []
    → AreRows sums rows (level_lanes tables rows one sources start) 1 0
level_first sums rows tables one sources start origin first len wide are bytes origin_is first_is =
    record {
      len = len;
      done = λ q hq. absurd (omega arith);
      left = λ q _ hq.
          same_as_lanes_from (level_sum (row tables rows q) (level one q) sources 1) start (get_or sums q []) (wide q hq)
          (λ i hi.
          are q i hq hi ∙ times_level one q (get_or origin i 0) (bytes i hi)
          ∙ ap (field_product (level one q))
          (ap (λ (l : List ℕ). get_or l i 0) origin_is ∙ get_or-lanes_from (λ n. get_or first n 0) start i hi
          ∙ ap (λ (s : List ℕ). get_or s (start + i) 0) first_is)
          ∙ sym (level_sum_one (row tables rows q) (level one q) sources (start + i)));
    }

-- all sources make the sums
pub level_all : (sums : List (List ℕ)) (rows : ℕ) (tables : List ℕ) (one : Bool) (sources : List (List ℕ))
    (start j count : ℕ) → AreRows sums rows (level_lanes tables rows one sources start) j 0 → j ≡ length sources
    → HaveLevels tables rows count one → count ≡ length sources
    → (r : ℕ) → r < rows → get_or sums r [] ≡ lanes_from (dot_byte (row tables rows r) sources) start
level_all sums rows tables one sources start j count known end levels counted r hr =
    let cs = row tables rows r in
    let l = level one r in
    known.left r (omega arith) hr
    ∙ ap (λ n. lanes_from (level_sum cs l sources n) start) end
    ∙ lanes_same (level_sum cs l sources (length sources)) (dot_byte cs sources) start
    (λ b. level_sum-dot cs l sources b (ap (λ n. field_sum n cs) (sym counted) ∙ levels r hr))
