use Rattle.std.proofs.Common.{◌≡◌, ℕ, ◌+◌, ◌<◌, ◌≤◌, get_or}
use Rattle.kernels.proofs.blocks.store_first.Given as goal

abbrev pub invariant-loop-i : goal.invariant-loop-i
invariant-loop-i l =
    record {
      done : (n : ℕ) → n < l.i → get_or l.out (l.start + n) 0 ≡ get_or l.fn.lanes n 0;
      before : (n : ℕ) → n < l.start → get_or l.out n 0 ≡ get_or l.fn.out n 0;
      after : (n : ℕ) → l.start + l.i ≤ n → get_or l.out n 0 ≡ get_or l.fn.out n 0;
    }
