use Rattle.std.proofs.Common.{◌≡◌, ◌<◌}
use Rattle.gf256.specs.Field.{field_product, field_power}
use Rattle.gf256.proofs.arithmetic.pow.Given as goal

-- the factors so far, times those that are left
abbrev pub invariant-loop-left : goal.invariant-loop-left
invariant-loop-left l =
    record {
      value : field_product l.product (field_power l.base l.left) ≡ field_power l.fn.a l.fn.exponent;
      product_fits : l.product < 256;
      base_fits : l.base < 256;
    }

abbrev pub decreases-loop-left : goal.decreases-loop-left
decreases-loop-left l = l.left
