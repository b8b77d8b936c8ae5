-- The contracts that docs/trusted.md lists do not depend on this file; other contracts and proofs do.
-- Lines, lane by lane, and the polynomials that they stand for at two points.
use Rattle.std.specs.Prelude.{◌≡◌, ℕ, ◌<◌, ◌≤◌, ◌+◌, ◌*◌, ◌%◌}
use Rattle.std.specs.Prelude.{List, [], length, bit_xor, drop, map, slice_index, slice_index_or}
use Rattle.gf256.specs.Polynomial.{evaluate}
use Rattle.gf256.specs.Field.{field_product, field_power}
use Rattle.kernels.specs.declared.line.Line.{Line}
use Rattle.kernels.specs.Dot.{dot_byte}

-- x is a root of the polynomial of degree 2 with the coefficients 1, 1 and c
pub record IsRoot (c x : ℕ) : Type 0 where
  pub point : x < 256
  pub coefficient : c < 256
  pub square : field_product x x ≡ bit_xor x c

-- the value at x of the line in lane i
abbrev pub line_at : Line → ℕ → ℕ → ℕ
line_at l x i = bit_xor (field_product x (slice_index l.slope i)) (slice_index l.level i)

-- u is an even byte, and c the product of u and u + 1
pub record IsPair (u c : ℕ) : Type 0 where
  pub fits : u < 256
  pub even : u % 2 ≡ 0
  pub product : c ≡ field_product u (u + 1)

-- the points are the first ones of the pairs of as many rows from an even point on, and the steps their products
pub record ArePairs (points steps : List ℕ) (rows first : ℕ) : Type 0 where
  pub even : first % 2 ≡ 0
  pub within : first + rows ≤ 256
  pub points_are : (p : ℕ) → p * 2 < rows → slice_index points p ≡ first + p * 2
  pub steps_are : (p : ℕ) → p * 2 < rows → slice_index steps p ≡ field_product (first + p * 2) (first + p * 2 + 1)

-- up to byte `until` each row of `out` has the sums by the powers of its point, from the first point on, where row r
-- has `size` bytes from r * size on
abbrev pub ArePowers : List ℕ → ℕ → List (List ℕ) → ℕ → ℕ → ℕ → Type 0
ArePowers out rows sources size until first =
    (r b : ℕ) → r < rows → b < until
    → slice_index out (r * size + b) ≡ dot_byte (field_power (first + r)) sources b

-- the value at x of the polynomial whose coefficients are the bytes b of the sources from source j on
unfoldable pub value_from : List (List ℕ) → ℕ → ℕ → ℕ → ℕ
value_from sources x b j = evaluate (drop j (map (λ s. slice_index s b) sources)) x

-- any line, for a place past the end
abbrev pub no_line : Line
no_line = record { slope = []; level = [] }

-- from source j on, byte b of each source is a byte
abbrev pub HasBytes : List (List ℕ) → ℕ → ℕ → Type 0
HasBytes sources b j = (q : ℕ) → j ≤ q → q < length sources → slice_index (slice_index_or sources q []) b < 256
