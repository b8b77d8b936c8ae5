use Rattle.std.proofs.Common.{◌≡◌, ℕ, ◌<◌, ◌≤◌, length, get_or, bit_xor}
use Rattle.gf256.specs.Field.{field_product}
use Rattle.kernels.specs.Line.{IsRoot, line_at, no_line}
use Rattle.kernels.proofs.lanes.next_lines.Given as goal

-- the lines so far are one block further down
abbrev pub invariant-loop-p : goal.invariant-loop-p
invariant-loop-p g l =
    record {
      len : length l.nexts ≡ g.row.R;
      done : (p x i : ℕ) → p < l.p → IsRoot (get_or l.steps p 0) x → i < 32 → line_at (get_or l.nexts p no_line) x i
          ≡ bit_xor (get_or l.block i 0) (field_product x (line_at (get_or l.fn.lines p no_line) x i));
      left : (p : ℕ) → l.p ≤ p → get_or l.nexts p no_line ≡ get_or l.fn.lines p no_line;
    }
