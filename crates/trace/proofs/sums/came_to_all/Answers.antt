use Rattle.record.specs.Accounts.{member_sum}
use Rattle.trace.specs.Cost.{came_at}
use Rattle.trace.proofs.CappedSumLemmas.{capped_more, sum_more}
use Rattle.trace.proofs.sums.came_to_all.Goals as goal

pub loop-member-preserved : goal.loop-member-preserved
loop-member-preserved c =
    let came = came_at c.args.register.now.object c.args.fragment c.args.tag c.args.position in
    capped_more c.loop-member.total (member_sum came 0 c.loop-member.member) _ _ _ _
    c.loop-member.invariant c.came_at.ensures c.saturating_add-total.ensures (sum_more came c.loop-member.member)
