use Rattle.std.proofs.Common.{◌≡◌, ℕ, ◌<◌, get_or}
use Rattle.gf256.specs.Field.{field_power}
use Rattle.encoder.proofs.points.fill_powers.Given as goal

-- the powers so far, and the next one
abbrev pub invariant-loop-j : goal.invariant-loop-j
invariant-loop-j l =
    record {
      power : l.power ≡ field_power l.point l.j;
      done : (i : ℕ) → i < l.j → get_or l.tables i 0 ≡ field_power l.point i;
    }
