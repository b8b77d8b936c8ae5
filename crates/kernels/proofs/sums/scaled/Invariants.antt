use Rattle.std.proofs.Common.{◌≡◌, ◌-◌, ◌%◌, ◌^◌}
use Rattle.gf256.specs.Field.{field_power}
use Rattle.gf256.specs.Polynomial.{scaled}
use Rattle.kernels.proofs.sums.scaled.Given as goal

-- the products by the bits of c below i, and by the power of x that the last of them is
abbrev pub invariant-loop-i : goal.invariant-loop-i
invariant-loop-i l =
    record {
      sum : l.sum ≡ scaled (l.fn.c % 2 ^ l.i) l.fn.lanes;
      term : l.term ≡ scaled (field_power 2 (l.i - 1)) l.fn.lanes;
    }
