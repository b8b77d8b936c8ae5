-- The contracts that docs/trusted.md lists do not depend on this file; other contracts and proofs do.
-- Sums of products of several sources, byte by byte.
use Rattle.std.specs.Prelude.{◌≡◌, ◌<◌, ℕ, ◌+◌, ◌*◌, List, [], length, map, slice_index, slice_index_or}
use Rattle.std.specs.Borrow.{Bor}
use Rattle.std.specs.List.{range_with_len}
use Rattle.gf256.specs.Field.{field_product, field_sum}

-- the bytes of each slice
abbrev pub bytes_of : List (Bor (List ℕ)) → List (List ℕ)
bytes_of slices = map (λ (s : Bor (List ℕ)). s.now) slices

-- coefficient j times byte b of source j; past a source's end `slice_index` is 0
abbrev pub term : (ℕ → ℕ) → List (List ℕ) → ℕ → ℕ → ℕ
term coefficient sources b j = field_product (coefficient j) (slice_index (slice_index_or sources j []) b)

-- byte b of the sum of the sources, each times its coefficient
unfoldable pub dot_byte : (ℕ → ℕ) → List (List ℕ) → ℕ → ℕ
dot_byte coefficient sources b = field_sum (length sources) (term coefficient sources b)

-- the coefficients of row r, where those of each source for the rows stand side by side
abbrev pub row : List ℕ → ℕ → ℕ → ℕ → ℕ
row coefficients rows r j = slice_index coefficients (j * rows + r)

-- up to byte `until` each row of `out` has its sums, where row r has `size` bytes from r * size on
abbrev pub AreDots : List ℕ → List ℕ → ℕ → List (List ℕ) → ℕ → ℕ → Type 0
AreDots out coefficients rows sources size until =
    (r b : ℕ) → r < rows → b < until
    → slice_index out (r * size + b) ≡ dot_byte (row coefficients rows r) sources b

-- up to byte `until` each row of `out` has its sums, except for bytes past the end of `out`
abbrev pub AreDotsWithin : List ℕ → List ℕ → ℕ → List (List ℕ) → ℕ → ℕ → Type 0
AreDotsWithin out coefficients rows sources size until =
    (r b : ℕ) → r < rows → b < until → r * size + b < length out
    → slice_index out (r * size + b) ≡ dot_byte (row coefficients rows r) sources b

-- what f gives for the 32 numbers from start on
unfoldable pub lanes_from : (ℕ → ℕ) → ℕ → List ℕ
lanes_from f start = map (λ i. f (start + i)) (range_with_len 0 32)
