use Rattle.std.proofs.Common.{◌≡◌, take, sum_by}
use Rattle.trace.specs.Cost.{returned_in}
use Rattle.std.specs.Io.Iter.{u64_saturate}
use Rattle.register.specs.View.{phases_at}
use Rattle.trace.proofs.sums.returned.Given as goal

-- the sum over the phases so far
abbrev pub invariant-loop-index : goal.invariant-loop-index
invariant-loop-index l =
    l.total ≡ u64_saturate (sum_by (returned_in) (take l.index (phases_at l.register.object l.call)))
