use Rattle.std.proofs.Common.{◌-◌, ◌≤◌, length}
use Rattle.kernels.specs.Dot.{bytes_of}
use Rattle.decoder.specs.Rows.{AreBlocksUntil}
use Rattle.decoder.proofs.sums.write_blocks.Given as goal

-- the stripes so far
abbrev pub invariant-loop-from : goal.invariant-loop-from
invariant-loop-from l =
    record {
      within : l.from ≤ l.size;
      blocks : AreBlocksUntil l.out (length l.fragments) l.size l.table (bytes_of l.fragments) l.from;
    }

abbrev pub decreases-loop-from : goal.decreases-loop-from
decreases-loop-from l = l.size - l.from
