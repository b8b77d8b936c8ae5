use Rattle.std.proofs.Common.{◌≡◌, ℕ, ◌+◌, ◌*◌, ◌<◌, length, get_or}
use Rattle.gf256.specs.Field.{field_product}
use Rattle.kernels.proofs.powers.steps.Given as goal

-- the pairs so far
abbrev pub invariant-loop-p : goal.invariant-loop-p
invariant-loop-p g l =
    record {
      len : length l.steps ≡ g.row.R;
      done : (q : ℕ) → q < l.p → get_or l.steps q 0 ≡ field_product (l.first + q * 2) (l.first + q * 2 + 1);
    }
