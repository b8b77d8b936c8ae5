-- The contracts that docs/trusted.md lists do not depend on this file; other contracts and proofs do.
-- The points of Lagrange's rows, the polynomial from which all rows are computed, and tables of rows.
use Rattle.std.specs.Prelude.{◌≡◌, ℕ, ◌+◌, ◌*◌, ◌<◌, List, length, slice_index}
use Rattle.gf256.specs.Polynomial.{AreBytes, AreDistinct, IsBasisRow, evaluate}

-- the points for which Lagrange's rows are computed
pub record Basis : Type 0 where
  pub points : List ℕ

-- cs is the product of `x + point` over the first n points: of degree n, leading coefficient 1, and 0 at these points
pub record IsProduct (points : List ℕ) (n : ℕ) (cs : List ℕ) : Type 0 where
  pub len : length cs ≡ n + 1
  pub bytes : AreBytes cs
  pub highest : slice_index cs n ≡ 1
  pub zero : (j : ℕ) → j < n → evaluate cs (slice_index points j) ≡ 0

-- the invariant of `Rows`: the points are distinct bytes, and `product` is the product over all of them
pub record AreRows (points product : List ℕ) : Type 0 where
  pub bytes : AreBytes points
  pub distinct : AreDistinct points
  pub whole : IsProduct points (length points) product

-- in line i of the table stands row i of Lagrange's basis of the points
pub record HasRow (table points : List ℕ) (i : ℕ) : Type 0 where
  pub basis : List ℕ
  pub is_row : IsBasisRow points i basis
  pub same : (j : ℕ) → j < length points → slice_index table (i * length points + j) ≡ slice_index basis j

-- in each line stands its row
abbrev pub HasRows : List ℕ → List ℕ → Type 0
HasRows table points = (i : ℕ) → i < length points → HasRow table points i
