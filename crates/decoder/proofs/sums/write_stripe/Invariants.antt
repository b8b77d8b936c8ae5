use Rattle.std.proofs.Common.{◌-◌, ◌≤◌, length}
use Rattle.kernels.specs.Dot.{bytes_of}
use Rattle.decoder.specs.Rows.{AreBlocksUntil}
use Rattle.decoder.proofs.RowTableLemmas.{AreBlocksLeft}
use Rattle.decoder.proofs.sums.write_stripe.Given as goal

-- where all blocks are made up to `from`, those so far are made up to `until`, and the others as before
abbrev pub invariant-loop-done : goal.invariant-loop-done
invariant-loop-done l =
    record {
      within : l.done ≤ length l.fragments;
      blocks : AreBlocksUntil l.initial.out (length l.fragments) l.size l.table (bytes_of l.fragments) l.from
          → AreBlocksUntil l.out l.done l.size l.table (bytes_of l.fragments) l.until;
      left : AreBlocksUntil l.initial.out (length l.fragments) l.size l.table (bytes_of l.fragments) l.from
          → AreBlocksLeft l.out l.done (length l.fragments) l.size l.table (bytes_of l.fragments) l.from;
    }

abbrev pub decreases-loop-done : goal.decreases-loop-done
decreases-loop-done l = length l.fragments - l.done
