use Rattle.std.proofs.Common.{◌-◌, ◌≤◌}
use Rattle.kernels.specs.Dot.{bytes_of}
use Rattle.kernels.specs.Line.{ArePowers}
use Rattle.encoder.proofs.PointSumLemmas.{ArePowersLeft}
use Rattle.encoder.proofs.points.write_stripe.Given as goal

-- where all rows are made up to `from`, those so far are made up to `until`, and the others as before
abbrev pub invariant-loop-done : goal.invariant-loop-done
invariant-loop-done l =
    record {
      within : l.done ≤ l.n;
      rows : ArePowers l.initial.out l.n (bytes_of l.sources) l.size l.from l.first
          → ArePowers l.out l.done (bytes_of l.sources) l.size l.until l.first;
      left : ArePowers l.initial.out l.n (bytes_of l.sources) l.size l.from l.first
          → ArePowersLeft l.out l.done l.n (bytes_of l.sources) l.size l.from l.first;
    }

abbrev pub decreases-loop-done : goal.decreases-loop-done
decreases-loop-done l = l.n - l.done
