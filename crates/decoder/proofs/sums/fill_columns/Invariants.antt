use Rattle.std.proofs.Common.{◌≡◌, ℕ, ◌+◌, ◌*◌, ◌<◌, get_or}
use Rattle.decoder.proofs.sums.fill_columns.Given as goal

-- the columns so far
abbrev pub invariant-loop-r : goal.invariant-loop-r
invariant-loop-r l = (i q : ℕ) → i < l.k → q < l.r → get_or l.tables (i * l.rows + q) 0 ≡ get_or l.table (i * l.k + (l.first + q)) 0
