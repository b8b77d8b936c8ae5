-- The contracts that docs/trusted.md lists do not depend on this file; other contracts and proofs do.
-- Rows of coefficients that sum up to 0 or to 1.
use Rattle.std.specs.Prelude.{◌≡◌, ◌<◌, ◌&&◌, ◌==◌, if◌then◌else◌, ℕ, Bool, List}
use Rattle.gf256.specs.Field.{field_sum}
use Rattle.kernels.specs.Dot.{row}

-- 1 for row 0 if `one` says so, and otherwise 0
abbrev pub level : Bool → ℕ → ℕ
level one r = if one && r == 0 then 1 else 0

-- the coefficients of each row, those of `count` sources, sum up to its level
abbrev pub HaveLevels : List ℕ → ℕ → ℕ → Bool → Type 0
HaveLevels coefficients rows count one = (r : ℕ) → r < rows → field_sum count (row coefficients rows r) ≡ level one r
