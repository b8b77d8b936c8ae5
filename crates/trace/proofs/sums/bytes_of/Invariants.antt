use Rattle.std.proofs.Common.{◌≡◌, take, sum_by}
use Rattle.trace.specs.Cost.{taken_bytes}
use Rattle.std.specs.Io.Iter.{u64_saturate}
use Rattle.trace.proofs.sums.bytes_of.Given as goal

abbrev pub invariant-loop-taken : goal.invariant-loop-taken
invariant-loop-taken l = l.total ≡ u64_saturate (sum_by taken_bytes (take l.taken-index l.replies))
