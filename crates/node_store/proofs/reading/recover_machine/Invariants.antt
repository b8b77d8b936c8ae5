-- The entries before this end were carried out.
use Rattle.std.proofs.Common.{◌-◌, ◌^◌}
use Rattle.node_store.proofs.RecoveryLemmas.{IsSoFar}
use Rattle.node_store.proofs.reading.recover_machine.Given as goal

abbrev pub invariant-loop-end : goal.invariant-loop-end
invariant-loop-end g l = IsSoFar g.M.Machine.carries_out l.fn.machine l.machine (g.R.Read.remaining l.fn.reader)
    (g.R.Read.remaining l.reader) l.at

abbrev pub decreases-loop-end : goal.decreases-loop-end
decreases-loop-end g l = 2 ^ 64 - l.at.length
