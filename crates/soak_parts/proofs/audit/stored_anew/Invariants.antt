use Rattle.std.proofs.Common.{◌≡◌}
use Rattle.std.specs.Io.Iter.{u64_saturate}
use Rattle.record.specs.Accounts.{member_sum}
use Rattle.tag.specs.declared.limits.TheConstants.{MOST_MEMBERS}
use Rattle.soak_parts.specs.Audit.{bank_bytes_at}
use Rattle.soak_parts.proofs.audit.stored_anew.Given as goal

abbrev pub invariant-loop-position : goal.invariant-loop-position
invariant-loop-position l =
    l.total ≡ u64_saturate (member_sum (λ p. member_sum (bank_bytes_at l.register.object l.server p) 0 MOST_MEMBERS) 0 l.position)
