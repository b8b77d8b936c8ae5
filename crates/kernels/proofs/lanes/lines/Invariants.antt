use Rattle.std.proofs.Common.{◌≡◌, ℕ, ◌+◌, ◌*◌, ◌<◌, ◌≤◌, length, get_or}
use Rattle.kernels.specs.Dot.{bytes_of}
use Rattle.kernels.specs.Line.{HasBytes, IsRoot, line_at, no_line, value_from}
use Rattle.kernels.proofs.lanes.lines.Given as goal

-- the lines have the values of what stands from source j on
abbrev pub invariant-loop-j : goal.invariant-loop-j
invariant-loop-j g l =
    record {
      within : l.j ≤ length l.sources;
      values : (p x i : ℕ) → p * 2 < g.row.R → IsRoot (get_or l.steps p 0) x → i < 32
          → line_at (get_or l.lines p no_line) x i ≡ value_from (bytes_of l.sources) x (l.start + i) l.j;
      bytes : (i : ℕ) → i < 32 → HasBytes (bytes_of l.sources) (l.start + i) l.j;
    }

abbrev pub decreases-loop-j : goal.decreases-loop-j
decreases-loop-j g l = l.j
