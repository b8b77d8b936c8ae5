use Rattle.std.proofs.Common.{◌-◌, ◌≤◌}
use Rattle.kernels.specs.Dot.{bytes_of}
use Rattle.kernels.specs.Line.{ArePowers}
use Rattle.encoder.proofs.points.write_points.Given as goal

-- the stripes so far
abbrev pub invariant-loop-from : goal.invariant-loop-from
invariant-loop-from l =
    record { within : l.from ≤ l.size; rows : ArePowers l.out l.n (bytes_of l.sources) l.size l.from l.first }

abbrev pub decreases-loop-from : goal.decreases-loop-from
decreases-loop-from l = l.size - l.from
