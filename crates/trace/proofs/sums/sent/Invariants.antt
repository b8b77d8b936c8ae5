use Rattle.std.proofs.Common.{◌≡◌, take, sum_by}
use Rattle.trace.specs.Cost.{sent_in_phase}
use Rattle.std.specs.Io.Iter.{u64_saturate}
use Rattle.register.specs.View.{phases_at}
use Rattle.trace.proofs.sums.sent.Given as goal

-- the sum over the phases so far
abbrev pub invariant-loop-index : goal.invariant-loop-index
invariant-loop-index l =
    l.total ≡ u64_saturate (sum_by (sent_in_phase l.register.object l.call) (take l.index (phases_at l.register.object l.call)))
