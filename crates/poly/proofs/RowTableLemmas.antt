-- A table of rows, line by line.
use Rattle.std.proofs.Common.{◌≡◌, ℕ, ◌+◌, ◌*◌, ◌<◌, ◌≤◌, List, length, get_or, subst, ◌∙◌, arith, rules, ⊎_elim, mul-le-mul_right}
use Rattle.std.proofs.lemmas.Bool.{cases_lt}
use Rattle.std.proofs.lemmas.List.{places}
use borrow.Rule.Slice.PartMut.{put_mid}
use Rattle.poly.specs.Basis.{HasRow}

one_more : (i j : ℕ) → i < j → i + 1 ≤ j
one_more i j less = omega arith

-- a line ends where a later one begins, or before it
pub lines_apart : (i j w : ℕ) → i < j → i * w + w ≤ j * w
lines_apart i j w less = omega (arith, mul-le-mul_right w (one_more i j less))

-- a byte that is written into the middle of a list
pub get_or-middle : (a k : ℕ) (xs ys : List ℕ) (j : ℕ) → a ≤ length xs → j < length ys
    → get_or (put_mid a k xs ys) (a + j) 0 ≡ get_or ys j 0
get_or-middle a k xs ys j ha hj = search (rules, places)

-- one more line
pub HasRow-more : (old new points : List ℕ) (i : ℕ) → HasRow new points i
    → ((n : ℕ) → n < i * length points → get_or new n 0 ≡ get_or old n 0)
    → ((m : ℕ) → m < i → HasRow old points m)
    → (m : ℕ) → m < i + 1 → HasRow new points m
HasRow-more old new points i is_row before known m hm =
    ⊎_elim (λ low.
    let line = known m low in
    record {
      basis = line.basis;
      is_row = line.is_row;
      same = λ j hj.
          before (m * length points + j) (omega (arith, lines_apart m i (length points) low)) ∙ line.same j hj;
    })
    (λ high.
    let e : i ≡ m = omega arith in
    subst (HasRow new points) e is_row)
    (cases_lt m i)
