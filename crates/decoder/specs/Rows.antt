-- The contracts that docs/trusted.md lists do not depend on this file; other contracts and proofs do.
-- Tables of Lagrange's rows: their columns, and the sums of fragments by these.
use Rattle.std.specs.Prelude.{◌≡◌, ℕ, ◌+◌, ◌*◌, ◌<◌, List, length, slice_index, take, drop, true}
use Rattle.gf256.specs.Polynomial.{evaluate}
use Rattle.gf256.specs.Field.{field_sum}
use Rattle.kernels.specs.Dot.{dot_byte, row}
use Rattle.kernels.specs.Level.{level}

-- each of k columns of a table of k lines sums up to 0, and the first one to 1
abbrev pub HaveColumnSums : List ℕ → ℕ → Type 0
HaveColumnSums table k = (j : ℕ) → j < k → field_sum k (row table k j) ≡ level true j

-- the value at x of the polynomial in line i of a table whose lines have k coefficients
abbrev pub line_value : List ℕ → ℕ → ℕ → ℕ → ℕ
line_value table k x i = evaluate (take k (drop (i * k) table)) x

-- byte b of block j: the sum over the fragments of coefficient j of each one's row times its byte b
abbrev pub block_byte : List ℕ → List (List ℕ) → ℕ → ℕ → ℕ
block_byte table fragments j b = dot_byte (row table (length fragments) j) fragments b

-- up to byte `until` each of `rows` rows of `size` bytes each has the sums of a block, from block `first` on, as far as
-- `out` goes
abbrev pub AreBlockRows : List ℕ → ℕ → ℕ → List ℕ → List (List ℕ) → ℕ → ℕ → Type 0
AreBlockRows out rows size table fragments first until =
    (r b : ℕ) → r < rows → b < until → r * size + b < length out
    → slice_index out (r * size + b) ≡ block_byte table fragments (first + r) b

-- up to byte `until` each of the first blocks, of `size` bytes each, has its sums, as far as `out` goes
abbrev pub AreBlocksUntil : List ℕ → ℕ → ℕ → List ℕ → List (List ℕ) → ℕ → Type 0
AreBlocksUntil out blocks size table fragments until =
    (j b : ℕ) → j < blocks → b < until → j * size + b < length out
    → slice_index out (j * size + b) ≡ block_byte table fragments j b

-- these are the bytes of the blocks, of `size` bytes each, as far as they go
abbrev pub AreBlockBytes : List ℕ → ℕ → List ℕ → List (List ℕ) → Type 0
AreBlockBytes out size table fragments =
    (j b : ℕ) → b < size → j * size + b < length out → slice_index out (j * size + b) ≡ block_byte table fragments j b
