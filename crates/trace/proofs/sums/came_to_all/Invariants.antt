use Rattle.std.proofs.Common.{◌≡◌}
use Rattle.std.specs.Io.Iter.{u64_saturate}
use Rattle.record.specs.Accounts.{member_sum}
use Rattle.trace.specs.Cost.{came_at}
use Rattle.trace.proofs.sums.came_to_all.Given as goal

abbrev pub invariant-loop-member : goal.invariant-loop-member
invariant-loop-member l = l.total ≡ u64_saturate (member_sum (came_at l.register.object l.fragment l.tag l.position) 0 l.member)
