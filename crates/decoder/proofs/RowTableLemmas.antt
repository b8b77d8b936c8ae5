-- The table of rows, line by line, and the bytes of the blocks, pass by pass.
use Rattle.std.proofs.Common.{◌≡◌, ℕ, ◌+◌, ◌-◌, ◌*◌, ◌<◌, ◌≤◌, List, length, get_or, ap, ◌∙◌, sym, arith, ⊎_elim, mul-le-mul_right}
use Rattle.std.proofs.Common.{drop, get_or-take, get_or-drop, length-take, length-drop}
use borrow.Rule.Slice.PartMut.{mid_of, put_mid, same_len_mid}
use Rattle.std.proofs.lemmas.Bool.{cases_lt}
use Rattle.encoder.proofs.RowPlaceLemmas.{get_or-middle, rows_apart}
use Rattle.decoder.specs.Rows.{AreBlocksUntil, AreBlockBytes, block_byte}

-- a place has one column
pub same_column : (i j q r w : ℕ) → q < w → r < w → i * w + q ≡ j * w + r → q ≡ r
same_column i j q r w hq hr e =
    ⊎_elim (λ low. absurd (omega (arith, rows_apart i j w low)))
    (λ high.
    ⊎_elim (λ less. absurd (omega (arith, rows_apart j i w less)))
    (λ not_less. let line : i ≡ j = omega arith in omega (arith, ap (λ n. n * w) line))
    (cases_lt j i))
    (cases_lt i j)

-- what is made in a part of a list is made in the list
pub part_made : (a k size : ℕ) (xs ys : List ℕ) (rows from until : ℕ) (f : ℕ → ℕ → ℕ) → until ≤ size
    → a + k ≤ length xs → length ys ≡ k → ((i : ℕ) → i < rows * size → a + i < length xs → i < k)
    → (((r b : ℕ) → r < rows → b < from → r * size + b < length (mid_of a k xs) → get_or (mid_of a k xs) (r * size + b) 0 ≡ f r b)
    → (r b : ℕ) → r < rows → b < until → r * size + b < length ys → get_or ys (r * size + b) 0 ≡ f r b)
    → ((r b : ℕ) → r < rows → b < from → a + (r * size + b) < length xs → get_or xs (a + (r * size + b)) 0 ≡ f r b)
    → (r b : ℕ) → r < rows → b < until → a + (r * size + b) < length (put_mid a k xs ys)
    → get_or (put_mid a k xs ys) (a + (r * size + b)) 0 ≡ f r b
part_made a k size xs ys rows from until f short within long reach step known r b hr hb there =
    let middle : length (mid_of a k xs) ≡ k = omega (arith, length-take k (drop a xs), length-drop a xs) in
    let same : length (put_mid a k xs ys) ≡ length xs = same_len_mid a k xs ys (long ∙ sym middle) in
    let inside : r * size + b < k = reach (r * size + b) (omega (arith, rows_apart r rows size hr)) (omega arith) in
    get_or-middle a k xs ys (r * size + b) (omega arith) (omega arith)
    ∙ step
    (λ q c hq hc below.
    get_or-take k (drop a xs) (q * size + c) 0 (omega arith) ∙ get_or-drop a xs (q * size + c) 0
    ∙ known q c hq hc (omega arith))
    r b hr hb (omega arith)

-- a row that begins within as many rows is one of them
pub row_lt : (i k size n : ℕ) → i * size ≤ n → n < k * size → i < k
row_lt i k size n begins within =
    ⊎_elim (λ low. low)
    (λ high. let late : k ≤ i = omega arith in absurd (omega (arith, mul-le-mul_right size late)))
    (cases_lt i k)

-- more blocks whose sums go on up to `until`
pub AreBlocksUntil-more : (old new : List ℕ) (done rows size until : ℕ) (table : List ℕ) (fragments : List (List ℕ))
    → until ≤ size → length new ≡ length old
    → ((r b : ℕ) → r < rows → b < until → done * size + (r * size + b) < length new
    → get_or new (done * size + (r * size + b)) 0 ≡ block_byte table fragments (done + r) b)
    → ((n : ℕ) → n < done * size → get_or new n 0 ≡ get_or old n 0)
    → AreBlocksUntil old done size table fragments until → AreBlocksUntil new (done + rows) size table fragments until
AreBlocksUntil-more old new done rows size until table fragments short long inside before known j b hj hb there =
    ⊎_elim (λ low. before (j * size + b) (omega (arith, rows_apart j done size low)) ∙ known j b low hb (omega arith))
    (λ high.
    let r = j - done in
    let row : done + r ≡ j = omega arith in
    let place : done * size + (r * size + b) ≡ j * size + b = omega (arith, ap (λ n. n * size) row) in
    ap (λ n. get_or new n 0) (sym place) ∙ inside r b (omega arith) hb (omega arith)
    ∙ ap (λ n. block_byte table fragments n b) row)
    (cases_lt j done)

-- from block `done` on the blocks have their sums up to `from`
abbrev pub AreBlocksLeft : List ℕ → ℕ → ℕ → ℕ → List ℕ → List (List ℕ) → ℕ → Type 0
AreBlocksLeft out done blocks size table fragments from =
    (j b : ℕ) → done ≤ j → j < blocks → b < from → j * size + b < length out
    → get_or out (j * size + b) 0 ≡ block_byte table fragments j b

-- as the next pass finds its rows
pub rows_left : (out : List ℕ) (done rows blocks size from : ℕ) (table : List ℕ) (fragments : List (List ℕ))
    → done + rows ≤ blocks → AreBlocksLeft out done blocks size table fragments from
    → (r b : ℕ) → r < rows → b < from → done * size + (r * size + b) < length out
    → get_or out (done * size + (r * size + b)) 0 ≡ block_byte table fragments (done + r) b
rows_left out done rows blocks size from table fragments few known r b hr hb there =
    let split : (done + r) * size ≡ done * size + r * size = omega arith in
    let place : done * size + (r * size + b) ≡ (done + r) * size + b = omega arith in
    ap (λ n. get_or out n 0) place ∙ known (done + r) b (omega arith) (omega arith) hb (omega arith)

-- and those behind it are as they were
pub AreBlocksLeft-less : (old new : List ℕ) (done rows blocks size from : ℕ) (table : List ℕ) (fragments : List (List ℕ))
    → length new ≡ length old
    → ((n : ℕ) → done * size + rows * size ≤ n → get_or new n 0 ≡ get_or old n 0)
    → AreBlocksLeft old done blocks size table fragments from → AreBlocksLeft new (done + rows) blocks size table fragments from
AreBlocksLeft-less old new done rows blocks size from table fragments long after known j b hd hj hb there =
    let split : (done + rows) * size ≡ done * size + rows * size = omega arith in
    after (j * size + b) (omega (arith, mul-le-mul_right size hd)) ∙ known j b (omega arith) hj hb (omega arith)

-- blocks that are made to their ends are the bytes of the blocks
pub AreBlockBytes-until : (out : List ℕ) (blocks size until : ℕ) (table : List ℕ) (fragments : List (List ℕ))
    → length out ≤ blocks * size → size ≤ until → AreBlocksUntil out blocks size table fragments until
    → AreBlockBytes out size table fragments
AreBlockBytes-until out blocks size until table fragments enough all known j b hb there =
    known j b (row_lt j blocks size (j * size + b) (omega arith) (omega arith)) (omega arith) there
