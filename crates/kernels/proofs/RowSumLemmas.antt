-- The sums of several rows, source by source and row by row, and where rows stand.
use Rattle.std.proofs.Common.{◌≡◌, ℕ, ◌+◌, ◌*◌, ◌<◌, ◌≤◌, List, [], length, get_or, replicate, length-set}
use Rattle.std.proofs.Common.{set, sym, ap, ◌∙◌, bit_xor, mul-le-mul_right, arith, ⊎_elim}
use Rattle.std.proofs.lemmas.Bool.{cases_lt}
use Rattle.std.proofs.lemmas.List.{get_or-replicate, length-replicate, get_or-set_other}
use Rattle.std.proofs.lemmas.Grind.{get_or-set_at}
use Rattle.gf256.specs.Polynomial.{scaled}
use Rattle.kernels.specs.Dot.{row, dot_byte, lanes_from}
use Rattle.kernels.proofs.LaneSumLemmas.{lane_sums, lane_sums_none, lane_sums_more, lane_sums_all}
use lib.Lanes.{zip2}

one_more : (q r : ℕ) → q < r → q + 1 ≤ r
one_more q r less = omega arith

-- a row ends where a later one begins, or before it
pub rows_apart : (q r size : ℕ) → q < r → q * size + size ≤ r * size
rows_apart q r size less = omega (arith, mul-le-mul_right size (one_more q r less))

-- in each row what `made` gives for the first j sources, and for source j too in the first r rows
pub record AreRows (sums : List (List ℕ)) (rows : ℕ) (made : ℕ → ℕ → List ℕ) (j r : ℕ) : Type 0 where
  pub len : length sums ≡ rows
  pub done : (q : ℕ) → q < r → get_or sums q [] ≡ made q (j + 1)
  pub left : (q : ℕ) → r ≤ q → q < rows → get_or sums q [] ≡ made q j

-- one more row
pub rows_more : (sums : List (List ℕ)) (rows : ℕ) (made : ℕ → ℕ → List ℕ) (j r : ℕ) (sum : List ℕ)
    → AreRows sums rows made j r → r < rows → sum ≡ made r (j + 1) → AreRows (set sums r sum) rows made j (r + 1)
rows_more sums rows made j r sum known hr is =
    record {
      len = length-set sums r sum ∙ known.len;
      done = λ q hq.
          ⊎_elim
          (λ low. get_or-set_other sums r q sum [] (omega arith) ∙ known.done q low)
          (λ high.
          let e : q ≡ r = omega arith in
          get_or-set_at sums r q sum [] e (omega (arith, known.len)) ∙ is ∙ ap (λ n. made n (j + 1)) (sym e))
          (cases_lt q r);
      left = λ q hq less. get_or-set_other sums r q sum [] (omega arith) ∙ known.left q (omega arith) less;
    }

-- one more source
pub rows_next : (sums : List (List ℕ)) (rows : ℕ) (made : ℕ → ℕ → List ℕ) (j r : ℕ)
    → AreRows sums rows made j r → rows ≤ r → AreRows sums rows made (j + 1) 0
rows_next sums rows made j r known all =
    record {
      len = known.len;
      done = λ q hq. absurd (omega arith);
      left = λ q _ hq. known.done q (omega arith);
    }

-- the sums of the terms, source by source, from byte start on
abbrev pub AreSums : List (List ℕ) → ℕ → List ℕ → List (List ℕ) → ℕ → ℕ → ℕ → Type 0
AreSums sums rows tables sources start j r = AreRows sums rows (λ q. lane_sums (row tables rows q) sources start) j r

pub sums_none : (rows : ℕ) (tables : List ℕ) (sources : List (List ℕ)) (start : ℕ)
    → AreSums (replicate rows (replicate 32 0)) rows tables sources start 0 0
sums_none rows tables sources start =
    record {
      len = length-replicate rows _;
      done = λ q hq. absurd (omega arith);
      left = λ q _ hq. get_or-replicate rows q _ [] hq ∙ lane_sums_none (row tables rows q) sources start;
    }

pub sums_more : (sums : List (List ℕ)) (rows : ℕ) (tables : List ℕ) (sources : List (List ℕ)) (start j r : ℕ)
    (product lanes source : List ℕ) (c : ℕ)
    → AreSums sums rows tables sources start j r → r < rows
    → product ≡ scaled c lanes → c ≡ row tables rows r j
    → lanes ≡ lanes_from (λ n. get_or source n 0) start → source ≡ get_or sources j []
    → AreSums (set sums r (zip2 bit_xor (get_or sums r []) product)) rows tables sources start j (r + 1)
sums_more sums rows tables sources start j r product lanes source c known hr is coefficient loaded at =
    rows_more sums rows (λ q. lane_sums (row tables rows q) sources start) j r (zip2 bit_xor (get_or sums r []) product) known hr
    (lane_sums_more (row tables rows r) sources start j (get_or sums r []) product lanes source c
    (known.left r (omega arith) hr) is coefficient loaded at)

pub sums_next : (sums : List (List ℕ)) (rows : ℕ) (tables : List ℕ) (sources : List (List ℕ)) (start j r : ℕ)
    → AreSums sums rows tables sources start j r → rows ≤ r → AreSums sums rows tables sources start (j + 1) 0
sums_next sums rows tables sources start j r known all =
    rows_next sums rows (λ q. lane_sums (row tables rows q) sources start) j r known all

-- all terms make the sums
pub sums_all : (sums : List (List ℕ)) (rows : ℕ) (tables : List ℕ) (sources : List (List ℕ)) (start j : ℕ)
    → AreSums sums rows tables sources start j 0 → j ≡ length sources
    → (r : ℕ) → r < rows → get_or sums r [] ≡ lanes_from (dot_byte (row tables rows r) sources) start
sums_all sums rows tables sources start j known e r hr =
    known.left r (omega arith) hr ∙ lane_sums_all (row tables rows r) sources start j e
