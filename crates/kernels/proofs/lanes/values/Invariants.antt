use Rattle.std.proofs.Common.{◌≡◌, ℕ, ◌+◌, ◌/◌, ◌%◌, ◌<◌, [], length, get_or}
use Rattle.kernels.specs.Line.{line_at, no_line}
use Rattle.kernels.proofs.lanes.values.Given as goal

-- the rows so far
abbrev pub invariant-loop-r : goal.invariant-loop-r
invariant-loop-r g l =
    record {
      len : length l.sums ≡ g.row.R;
      wide : (q : ℕ) → q < l.r → length (get_or l.sums q []) ≡ 32;
      done : (q i : ℕ) → q < l.r → get_or l.points (q / 2) 0 < 256 → get_or l.points (q / 2) 0 % 2 ≡ 0 → i < 32
          → get_or (get_or l.sums q []) i 0 ≡ line_at (get_or l.lines (q / 2) no_line) (get_or l.points (q / 2) 0 + q % 2) i;
    }
