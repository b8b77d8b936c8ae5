use Rattle.std.proofs.Common.{◌≡◌, ℕ, ◌<◌, get_or}
use Rattle.decoder.specs.Rows.{line_value}
use Rattle.decoder.proofs.weights.fill_values.Given as goal

-- the tables so far
abbrev pub invariant-loop-i : goal.invariant-loop-i
invariant-loop-i l = (m : ℕ) → m < l.i → get_or l.tables m 0 ≡ line_value l.table l.k l.x m
