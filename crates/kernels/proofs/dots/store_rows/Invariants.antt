use Rattle.std.proofs.Common.{◌≡◌, ℕ, ◌+◌, ◌*◌, ◌<◌, [], length, get_or}
use Rattle.kernels.proofs.dots.store_rows.Given as goal

-- the rows so far are written, and what stands before them in each row is as it was
abbrev pub invariant-loop-r : goal.invariant-loop-r
invariant-loop-r g l =
    record {
      inside : (q i : ℕ) → q < l.r → i < l.width → q * l.size + (l.start + i) < length l.fn.out
          → get_or l.out (q * l.size + (l.start + i)) 0 ≡ get_or (get_or l.sums q []) i 0;
      before : (q b : ℕ) → b < l.start → get_or l.out (q * l.size + b) 0 ≡ get_or l.fn.out (q * l.size + b) 0;
    }
