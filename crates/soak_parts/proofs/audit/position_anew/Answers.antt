use Rattle.std.proofs.Common.{◌≡◌, ℕ, arith, subst}
use Rattle.std.specs.Io.Iter.{u64_saturate}
use Rattle.tag.specs.declared.limits.TheConstants.{MOST_MEMBERS}
use Rattle.record.specs.Accounts.{member_sum}
use Rattle.soak_parts.specs.Audit.{bank_bytes_at}
use Rattle.soak_parts.proofs.AccountSumLemmas.{capped_more, sum_more}
use Rattle.soak_parts.proofs.audit.position_anew.Goals as goal

pub loop-member-preserved : goal.loop-member-preserved
loop-member-preserved c =
    capped_more _ _ _ _ _ _ c.loop-member.invariant c.member_anew.ensures c.saturating_add-total.ensures
    (sum_more (bank_bytes_at c.args.register.now.object c.args.server c.args.position) c.loop-member.member)

pub returns : goal.returns
returns c =
    let all : c.loop-member.member ≡ MOST_MEMBERS = omega arith in
    let object = c.args.register.now.object in
    subst
    (λ (m : ℕ). c.loop-member.total ≡ u64_saturate (member_sum (bank_bytes_at object c.args.server c.args.position) 0 m)) all
    c.loop-member.invariant
