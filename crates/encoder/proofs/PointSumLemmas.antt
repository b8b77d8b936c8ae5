-- Sums by the powers of points, and the fragments that they are.
use Rattle.std.proofs.Common.{◌≡◌, ℕ, ◌+◌, ◌-◌, ◌*◌, ◌<◌, ◌≤◌, lit<, List}
use Rattle.std.proofs.Common.{length, get_or, take, drop, sym, ap, subst, ◌∙◌, arith, ⊎_elim, mul-le-mul_right}
use Rattle.std.proofs.Common.{get_or-drop, get_or-take, length-take, length-drop}
use Rattle.std.proofs.lemmas.Bool.{cases_lt}
use Rattle.std.proofs.lemmas.Grind.{same_number_lists}
use Rattle.gf256.specs.Field.{field_product, field_power, field_sum}
use Rattle.gf256.proofs.FieldSumLemmas.{field_sum_same}
use Rattle.std.specs.List.{slice_range}
use Rattle.kernels.specs.Dot.{dot_byte, term}
use Rattle.kernels.specs.Line.{ArePowers}
use Rattle.encoder.specs.Fragment.{fragment_len, fragment_byte, fragment}
use Rattle.encoder.specs.Points.{AreBlocksOfValue, ArePoints, AreFragmentRows}
use Rattle.encoder.proofs.ColumnLemmas.{length-fragment, get_or-fragment}
use Rattle.encoder.proofs.RowPlaceLemmas.{rows_apart}

-- more rows that are made up to `until`
pub ArePowers-more : (old new : List ℕ) (done rows : ℕ) (sources : List (List ℕ)) (size until first : ℕ) → until ≤ size
    → ((r b : ℕ) → r < rows → b < until
    → get_or new (done * size + (r * size + b)) 0 ≡ dot_byte (field_power (first + done + r)) sources b)
    → ((n : ℕ) → n < done * size → get_or new n 0 ≡ get_or old n 0)
    → ArePowers old done sources size until first → ArePowers new (done + rows) sources size until first
ArePowers-more old new done rows sources size until first short inside before known r b hr hb =
    ⊎_elim (λ low. before (r * size + b) (omega (arith, rows_apart r done size low)) ∙ known r b low hb)
    (λ high.
    let q = r - done in
    let row : done + q ≡ r = omega arith in
    let point : first + done + q ≡ first + r = omega arith in
    let place : done * size + (q * size + b) ≡ r * size + b = omega (arith, ap (λ n. n * size) row) in
    ap (λ n. get_or new n 0) (sym place) ∙ inside q b (omega arith) hb ∙ ap (λ x. dot_byte (field_power x) sources b) point)
    (cases_lt r done)

-- from row `done` on the rows have their sums up to `from`
abbrev pub ArePowersLeft : List ℕ → ℕ → ℕ → List (List ℕ) → ℕ → ℕ → ℕ → Type 0
ArePowersLeft out done rows sources size from first =
    (r b : ℕ) → done ≤ r → r < rows → b < from → get_or out (r * size + b) 0 ≡ dot_byte (field_power (first + r)) sources b

-- as the next pass finds its rows
pub rows_left : (out : List ℕ) (done rows all : ℕ) (sources : List (List ℕ)) (size from first : ℕ) → done + rows ≤ all
    → ArePowersLeft out done all sources size from first
    → (r b : ℕ) → r < rows → b < from
    → get_or out (done * size + (r * size + b)) 0 ≡ dot_byte (field_power (first + done + r)) sources b
rows_left out done rows all sources size from first few known r b hr hb =
    let split : (done + r) * size ≡ done * size + r * size = omega arith in
    let place : done * size + (r * size + b) ≡ (done + r) * size + b = omega arith in
    let point : first + (done + r) ≡ first + done + r = omega arith in
    ap (λ n. get_or out n 0) place ∙ known (done + r) b (omega arith) (omega arith) hb
    ∙ ap (λ x. dot_byte (field_power x) sources b) point

-- and those behind it are as they were
pub ArePowersLeft-less : (old new : List ℕ) (done rows all : ℕ) (sources : List (List ℕ)) (size from first : ℕ)
    → ((n : ℕ) → done * size + rows * size ≤ n → get_or new n 0 ≡ get_or old n 0)
    → ArePowersLeft old done all sources size from first → ArePowersLeft new (done + rows) all sources size from first
ArePowersLeft-less old new done rows all sources size from first after known r b hd hr hb =
    let split : (done + rows) * size ≡ done * size + rows * size = omega arith in
    after (r * size + b) (omega (arith, mul-le-mul_right size hd)) ∙ known r b (omega arith) hr hb

-- with a value's blocks as the sources they are its fragments
pub AreFragmentRows-points : (out : List ℕ) (n k size first : ℕ) (value : List ℕ) (sources : List (List ℕ))
    → size ≡ fragment_len k (length value) → length sources ≡ k → AreBlocksOfValue sources k size value → ArePoints out n sources size first
    → AreFragmentRows out n value k first
unfolding dot_byte fragment_byte
AreFragmentRows-points out n k size first value sources is count blocks known r b hr hb =
    let f = fragment_len k (length value) in
    let low : b < size = subst (λ m. b < m) (sym is) hb in
    ap (λ m. get_or out (r * m + b) 0) (sym is) ∙ known r b hr low
    ∙ ap (λ m. field_sum m (term (field_power (first + r)) sources b)) count
    ∙ field_sum_same k (term (field_power (first + r)) sources b) (λ j. field_product (field_power (first + r) j) (get_or value
    (j * f + b) 0))
    (λ j hj.
    ap (field_product (field_power (first + r) j))
    (ap (λ s. get_or s b 0) (blocks j hj) ∙ get_or-take size (drop (j * size) value) b 0 low ∙ get_or-drop (j * size) value b 0
    ∙ ap (λ m. get_or value (j * m + b) 0) is))

-- one of them is the fragment at its point
pub fragment-row : (out : List ℕ) (n k first r : ℕ) (value row : List ℕ) → AreFragmentRows out n value k first → r < n
    → length row ≡ fragment_len k (length value)
    → ((b : ℕ) → b < fragment_len k (length value) → get_or row b 0 ≡ get_or out (r * fragment_len k (length value) + b) 0)
    → row ≡ fragment value k (first + r)
fragment-row out n k first r value row known hr len same =
    same_number_lists row (fragment value k (first + r)) (len ∙ sym (length-fragment value k (first + r)))
    (λ b hb.
    let low : b < fragment_len k (length value) = omega (arith, len) in
    same b low ∙ known r b hr low ∙ sym (get_or-fragment value k (first + r) b low))

-- as a row is cut out
pub fragment-cut : (out : List ℕ) (n k i size : ℕ) (value : List ℕ) → size ≡ fragment_len k (length value) → i < n
    → length out ≡ n * fragment_len k (length value) → AreFragmentRows out n value k 0
    → slice_range out (i * size) (i * size + size) ≡ fragment value k i
fragment-cut out n k i size value is hi len known =
    let start = i * size in
    let width : start + size - start ≡ size = omega arith in
    let inside : start + size ≤ length out = omega (arith, rows_apart i n size hi, len, ap (λ m. n * m) is) in
    let long : length (take size (drop start out)) ≡ fragment_len k (length value) =
    omega (arith, length-take size (drop start out), length-drop start out, is) in
    let same : i ≡ 0 + i = omega arith in
    ap (λ m. take m (drop start out)) width
    ∙ fragment-row out n k 0 i value (take size (drop start out)) known hi long
    (λ b hb.
    get_or-take size (drop start out) b 0 (omega (arith, is)) ∙ get_or-drop start out b 0 ∙ ap (λ m. get_or out (i * m + b) 0) is)
    ∙ ap (fragment value k) (sym same)

-- one row alone
pub fragment-alone : (out : List ℕ) (k x : ℕ) (value : List ℕ) → length out ≡ 1 * fragment_len k (length value)
    → AreFragmentRows out 1 value k x → out ≡ fragment value k x
fragment-alone out k x value len known =
    let same : x + 0 ≡ x = omega arith in
    fragment-row out 1 k x 0 value out known (lit< tt) (omega (arith, len)) (λ b hb. ap (λ m. get_or out m 0) (omega arith))
    ∙ ap (fragment value k) same
