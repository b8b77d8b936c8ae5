-- The places of a table of rows, and what is made in a part of it.
use Rattle.std.proofs.Common.{◌≡◌, ℕ, ◌+◌, ◌*◌, ◌<◌, ◌≤◌, List, length, get_or, drop, ◌∙◌, mul-le-mul_right, arith}
use Rattle.std.proofs.Common.{rules, get_or-take, get_or-drop}
use Rattle.std.proofs.lemmas.List.{places}
use borrow.Rule.Slice.PartMut.{mid_of, put_mid}

one_more : (q r : ℕ) → q < r → q + 1 ≤ r
one_more q r less = omega arith

-- a row ends where a later one begins, or before it
pub rows_apart : (i j w : ℕ) → i < j → i * w + w ≤ j * w
rows_apart i j w less = omega (arith, mul-le-mul_right w (one_more i j less))

-- a byte that is written into the middle of a list
pub get_or-middle : (a k : ℕ) (xs ys : List ℕ) (j : ℕ) → a ≤ length xs → j < length ys
    → get_or (put_mid a k xs ys) (a + j) 0 ≡ get_or ys j 0
get_or-middle a k xs ys j ha hj = search (rules, places)

-- rows that go on in a part of a list, which has room for them all, go on in the list
pub part_made : (a k size : ℕ) (xs ys : List ℕ) (rows from until : ℕ) (f : ℕ → ℕ → ℕ) → from ≤ until → until ≤ size
    → a + k ≤ length xs → length ys ≡ k → rows * size ≤ k
    → (((r b : ℕ) → r < rows → b < from → get_or (mid_of a k xs) (r * size + b) 0 ≡ f r b)
    → (r b : ℕ) → r < rows → b < until → get_or ys (r * size + b) 0 ≡ f r b)
    → ((r b : ℕ) → r < rows → b < from → get_or xs (a + (r * size + b)) 0 ≡ f r b)
    → (r b : ℕ) → r < rows → b < until → get_or (put_mid a k xs ys) (a + (r * size + b)) 0 ≡ f r b
part_made a k size xs ys rows from until f onward short within long reach step known r b hr hb =
    get_or-middle a k xs ys (r * size + b) (omega arith) (omega (arith, rows_apart r rows size hr))
    ∙ step
    (λ q c hq hc.
    get_or-take k (drop a xs) (q * size + c) 0 (omega (arith, rows_apart q rows size hq)) ∙ get_or-drop a xs (q * size + c) 0
    ∙ known q c hq hc)
    r b hr hb
