-- Reading on from the digits so far gives what reading from the first digit gives.
use Rattle.std.proofs.Common.{◌≤◌, ◌-◌}
use Rattle.frames.proofs.ReadNumberLemmas.{IsSoFar}
use Rattle.frames.proofs.number.read_digits.Given as goal

abbrev pub invariant-loop-byte : goal.invariant-loop-byte
invariant-loop-byte g l =
    (l.number ≤ l.most) × IsSoFar l.most l.above l.first l.number l.byte (g.R.Read.remaining l.fn.reader) (g.R.Read.remaining l.reader)

abbrev pub decreases-loop-byte : goal.decreases-loop-byte
decreases-loop-byte g l = l.most - l.number
