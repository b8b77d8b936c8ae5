use Rattle.std.proofs.Common.{◌≡◌, ℕ, ◌+◌, ◌<◌, ◌≤◌, length, get_or}
use Rattle.kernels.proofs.blocks.last_block.Given as goal

-- the bytes so far, with zeros after them
abbrev pub invariant-loop-i : goal.invariant-loop-i
invariant-loop-i l =
    record {
      len : length l.block ≡ 32;
      done : (n : ℕ) → n < l.i → get_or l.block n 0 ≡ get_or l.value (l.start + n) 0;
      left : (n : ℕ) → l.i ≤ n → get_or l.block n 0 ≡ 0;
    }
