use Rattle.std.proofs.Common.{◌≡◌, ℕ, ◌<◌, ◌≤◌, get_or}
use Rattle.gf256.specs.Field.{field_product}
use Rattle.poly.proofs.quotient.scale.Given as goal

-- the coefficients so far, and those that are left
abbrev pub invariant-loop-coefficient : goal.invariant-loop-coefficient
invariant-loop-coefficient l =
    record {
      done : (m : ℕ) → m < l.coefficient-index → get_or l.coefficient-items m 0 ≡ field_product (get_or l.fn.row m 0) l.factor;
      left : (m : ℕ) → l.coefficient-index ≤ m → get_or l.coefficient-items m 0 ≡ get_or l.fn.row m 0;
    }
