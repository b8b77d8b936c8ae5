-- Lanes that are computed from their places, and their sums.
use Rattle.std.proofs.Common.{◌≡◌, ℕ, suc, ◌+◌, ◌*◌, ◌<◌, List, [], length, get_or, replicate}
use Rattle.std.proofs.Common.{refl, sym, ap, ap₂, ◌∙◌, bit_xor, arith, ⊎_elim, ◌-◌, ◌≤◌, subst}
use Rattle.std.specs.Borrow.{Bor}
use Rattle.std.specs.List.{range_with_len}
use Rattle.std.proofs.lemmas.Bool.{cases_lt}
use Rattle.std.proofs.lemmas.List.{get_or-map, length-map, ext_get_or, get_or_past, get_or-replicate, length-replicate}
use Rattle.std.proofs.lemmas.List.FromFn.{get_or-map-range_with_len}
use Rattle.std.proofs.lemmas.Simd.{zip2_of_maps, map-map}
use Rattle.gf256.specs.Field.{field_product, field_sum}
use Rattle.gf256.specs.Polynomial.{scaled}
use Rattle.gf256.proofs.FieldSumLemmas.{field_sum_same}
use Rattle.kernels.specs.Dot.{bytes_of, term, dot_byte, lanes_from}
use lib.Lanes.{zip2}

pub get_or-zeros : (k n : ℕ) → get_or (replicate {A = ℕ} k 0) n 0 ≡ 0
get_or-zeros k n =
    ⊎_elim (λ low. get_or-replicate k n 0 0 low)
    (λ high. get_or_past (replicate k 0) n 0 (omega (arith, length-replicate {A = ℕ} k 0)))
    (cases_lt n k)

pub get_or-lanes_from : (f : ℕ → ℕ) (start i : ℕ) → i < 32 → get_or (lanes_from f start) i 0 ≡ f (start + i)
unfolding lanes_from
get_or-lanes_from f start i lt = get_or-map-range_with_len (λ i. f (start + i)) 0 32 i i 0 lt (omega arith)

pub length-lanes_from : (f : ℕ → ℕ) (start : ℕ) → length (lanes_from f start) ≡ 32
unfolding lanes_from
length-lanes_from f start = refl

-- lanes are known by what each holds
pub same_as_lanes_from : (f : ℕ → ℕ) (start : ℕ) (lanes : List ℕ) → length lanes ≡ 32 → ((i : ℕ) → i < 32
    → get_or lanes i 0 ≡ f (start + i)) → lanes ≡ lanes_from f start
same_as_lanes_from f start lanes long is =
    ext_get_or 0 lanes (lanes_from f start) (long ∙ sym (length-lanes_from f start))
    (λ i lt. is i (omega arith) ∙ sym (get_or-lanes_from f start i (omega arith)))

pub length-bytes_of : (slices : List (Bor (List ℕ))) → length (bytes_of slices) ≡ length slices
length-bytes_of slices = length-map slices (λ (s : Bor (List ℕ)). s.now)

-- any slice, for a place past the end
abbrev pub no_slice : Bor (List ℕ)
no_slice = record { ref_ptr = (0, 0); now = [] }

-- a slice that is read
pub bytes_at : (slices : List (Bor (List ℕ))) (j : ℕ) (d : Bor (List ℕ)) → j < length slices
    → (get_or slices j d).now ≡ get_or (bytes_of slices) j []
bytes_at slices j d hj = sym (get_or-map (λ (t : Bor (List ℕ)). t.now) slices j d [] hj)

one_more : (n : ℕ) → suc n ≡ n + 1
one_more n = omega arith

-- the first j terms of the sums from byte start on
abbrev pub lane_sums : (ℕ → ℕ) → List (List ℕ) → ℕ → ℕ → List ℕ
lane_sums coefficient sources start j = lanes_from (λ b. field_sum j (term coefficient sources b)) start

pub lane_sums_none : (cs : ℕ → ℕ) (sources : List (List ℕ)) (start : ℕ) → replicate 32 0 ≡ lane_sums cs sources start 0
unfolding field_sum lanes_from
lane_sums_none cs sources start = refl

-- source j from byte start on, times its coefficient
scaled_block : (cs : ℕ → ℕ) (sources : List (List ℕ)) (start j : ℕ)
    → scaled (cs j) (lanes_from (λ n. get_or (get_or sources j []) n 0) start) ≡ lanes_from (λ b. term cs sources b j) start
unfolding lanes_from
scaled_block cs sources start j =
    map-map (field_product (cs j)) (λ i. get_or (get_or sources j []) (start + i) 0) (range_with_len 0 32)

-- one more source
pub lane_sums_more : (cs : ℕ → ℕ) (sources : List (List ℕ)) (start j : ℕ) (sum product lanes source : List ℕ) (c : ℕ)
    → sum ≡ lane_sums cs sources start j
    → product ≡ scaled c lanes → c ≡ cs j → lanes ≡ lanes_from (λ n. get_or source n 0) start → source ≡ get_or sources j []
    → zip2 bit_xor sum product ≡ lane_sums cs sources start (j + 1)
unfolding field_sum lanes_from
lane_sums_more cs sources start j sum product lanes source c known is coefficient loaded at =
    zip2_of_maps bit_xor (λ i. field_sum j (term cs sources (start + i))) (λ i. term cs sources (start + i) j) (range_with_len 0 32)
    known
    (is ∙ ap₂ scaled coefficient (loaded ∙ ap (λ s. lanes_from (λ n. get_or s n 0) start) at) ∙ scaled_block cs sources start j)
    ∙ ap (λ n. lane_sums cs sources start n) (one_more j)

-- all terms make the sum
pub lane_sums_all : (cs : ℕ → ℕ) (sources : List (List ℕ)) (start j : ℕ) → j ≡ length sources
    → lane_sums cs sources start j ≡ lanes_from (dot_byte cs sources) start
unfolding dot_byte lanes_from
lane_sums_all cs sources start j e = ap (lane_sums cs sources start) e

-- what f gives for each row is written one block further
pub rows_stored : (f : ℕ → ℕ → ℕ) (old new : List ℕ) (sums : List (List ℕ)) (rows size start width : ℕ) → width ≤ 32
    → ((r : ℕ) → r < rows → get_or sums r [] ≡ lanes_from (f r) start)
    → ((r i : ℕ) → r < rows → i < width → get_or new (r * size + (start + i)) 0 ≡ get_or (get_or sums r []) i 0)
    → ((r b : ℕ) → r < rows → b < start → get_or new (r * size + b) 0 ≡ get_or old (r * size + b) 0)
    → ((r b : ℕ) → r < rows → b < start → get_or old (r * size + b) 0 ≡ f r b)
    → (r b : ℕ) → r < rows → b < start + width → get_or new (r * size + b) 0 ≡ f r b
rows_stored f old new sums rows size start width narrow are inside before known r b hr hb =
    ⊎_elim (λ low. before r b hr low ∙ known r b hr low)
    (λ high.
    let i = b - start in
    let place : start + i ≡ b = omega arith in
    let Is : ℕ → Type 0 = λ n. get_or new (r * size + n) 0 ≡ f r n in
    subst Is place (inside r i hr (omega arith) ∙ ap (λ xs. get_or xs i 0) (are r hr) ∙ get_or-lanes_from (f r) start i (omega arith)))
    (cases_lt b start)

-- the same of the bytes that there are
pub rows_stored_within : (f : ℕ → ℕ → ℕ) (old new : List ℕ) (sums : List (List ℕ)) (rows size start width : ℕ) → width ≤ 32
    → length new ≡ length old
    → ((r : ℕ) → r < rows → get_or sums r [] ≡ lanes_from (f r) start)
    → ((r i : ℕ) → r < rows → i < width → r * size + (start + i) < length old
    → get_or new (r * size + (start + i)) 0 ≡ get_or (get_or sums r []) i 0)
    → ((r b : ℕ) → r < rows → b < start → get_or new (r * size + b) 0 ≡ get_or old (r * size + b) 0)
    → ((r b : ℕ) → r < rows → b < start → r * size + b < length old → get_or old (r * size + b) 0 ≡ f r b)
    → (r b : ℕ) → r < rows → b < start + width → r * size + b < length new → get_or new (r * size + b) 0 ≡ f r b
rows_stored_within f old new sums rows size start width narrow long are inside before known r b hr hb there =
    ⊎_elim (λ low. before r b hr low ∙ known r b hr low (omega arith))
    (λ high.
    let i = b - start in
    let place : start + i ≡ b = omega arith in
    let Is : ℕ → Type 0 = λ n. get_or new (r * size + n) 0 ≡ f r n in
    subst Is place (inside r i hr (omega arith) (omega arith) ∙ ap (λ xs. get_or xs i 0) (are r hr)
    ∙ get_or-lanes_from (f r) start i (omega arith)))
    (cases_lt b start)

-- a sum of products is that of its coefficients, one by one
pub dot_same : (f g : ℕ → ℕ) (sources : List (List ℕ)) (b : ℕ) → ((j : ℕ) → j < length sources → f j ≡ g j)
    → dot_byte f sources b ≡ dot_byte g sources b
unfolding dot_byte
dot_same f g sources b same =
    field_sum_same (length sources) (term f sources b) (term g sources b)
    (λ j hj. ap (λ c. field_product c (get_or (get_or sources j []) b 0)) (same j hj))
