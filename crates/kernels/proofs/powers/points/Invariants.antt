use Rattle.std.proofs.Common.{◌≡◌, ℕ, ◌+◌, ◌*◌, ◌<◌, length, get_or}
use Rattle.kernels.proofs.powers.points.Given as goal

-- the pairs so far
abbrev pub invariant-loop-p : goal.invariant-loop-p
invariant-loop-p g l =
    record { len : length l.points ≡ g.row.R; done : (q : ℕ) → q < l.p → get_or l.points q 0 ≡ l.first + q * 2 }
