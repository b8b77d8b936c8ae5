-- The contracts that docs/trusted.md lists do not depend on this file; other contracts and proofs do.
-- Sums of sources by the powers of points.
use Rattle.std.specs.Prelude.{◌≡◌, ℕ, ◌+◌, ◌*◌, ◌<◌, List, [], length, take, drop, slice_index, slice_index_or}
use Rattle.gf256.specs.Field.{field_power}
use Rattle.kernels.specs.Dot.{dot_byte}
use Rattle.encoder.specs.Fragment.{fragment_len, fragment_byte}

-- source j is block j of the value, as far as the value goes
abbrev pub AreBlocksOfValue : List (List ℕ) → ℕ → ℕ → List ℕ → Type 0
AreBlocksOfValue sources k size value =
    (j : ℕ) → j < k → slice_index_or sources j [] ≡ take size (drop (j * size) value)

-- in each of the first rows, of `size` bytes each, stand the sums by the powers of its point, from the first point on
abbrev pub ArePoints : List ℕ → ℕ → List (List ℕ) → ℕ → ℕ → Type 0
ArePoints out rows sources size first =
    (r b : ℕ) → r < rows → b < size → slice_index out (r * size + b) ≡ dot_byte (field_power (first + r)) sources b

-- in each of the first rows stands the value's fragment at its point, from the first point on
abbrev pub AreFragmentRows : List ℕ → ℕ → List ℕ → ℕ → ℕ → Type 0
AreFragmentRows out rows value k first =
    (r b : ℕ) → r < rows → b < fragment_len k (length value)
    → slice_index out (r * fragment_len k (length value) + b) ≡ fragment_byte value k (first + r) b
