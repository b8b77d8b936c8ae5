use Rattle.std.proofs.Common.{ℕ, ◌<◌}
use Rattle.poly.specs.Basis.{HasRow}
use Rattle.poly.proofs.rows.fill_rows.Given as goal

-- the rows so far
abbrev pub invariant-loop-i : goal.invariant-loop-i
invariant-loop-i l = (m : ℕ) → m < l.i → HasRow l.table l.points m
