use Rattle.std.proofs.Common.{ℕ, ◌<◌, ◌≤◌, [], length, get_or}
use Rattle.kernels.specs.Dot.{bytes_of}
use Rattle.kernels.proofs.dots.shortest.Given as goal

-- no source so far is shorter
abbrev pub invariant-loop-j : goal.invariant-loop-j
invariant-loop-j l =
    record {
      most : l.shortest ≤ l.most;
      each : (i : ℕ) → i < l.j → l.shortest ≤ length (get_or (bytes_of l.sources) i []);
    }
