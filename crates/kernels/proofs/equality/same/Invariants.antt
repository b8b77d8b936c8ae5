use Rattle.std.proofs.Common.{◌≡◌, ℕ, ◌*◌, ◌<◌, get_or}
use Rattle.kernels.proofs.equality.same.Given as goal

abbrev pub invariant-loop-block : goal.invariant-loop-block
invariant-loop-block l = (n : ℕ) → n < l.block * 32 → get_or l.a n 0 ≡ get_or l.b n 0

abbrev pub invariant-loop-i : goal.invariant-loop-i
invariant-loop-i l = (n : ℕ) → n < l.i → get_or l.a n 0 ≡ get_or l.b n 0
