use Rattle.std.proofs.Common.{◌≡◌}
use Rattle.std.specs.Io.Iter.{u64_saturate}
use Rattle.record.specs.Accounts.{member_sum}
use Rattle.soak_parts.specs.Audit.{bank_bytes_at}
use Rattle.soak_parts.proofs.audit.position_anew.Given as goal

abbrev pub invariant-loop-member : goal.invariant-loop-member
invariant-loop-member l = l.total ≡ u64_saturate (member_sum (bank_bytes_at l.register.object l.server l.position) 0 l.member)
