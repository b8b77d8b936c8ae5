use Rattle.std.proofs.Common.{◌≡◌, ◌+◌}
use Rattle.record.specs.Accounts.{member_sum, stored}
use Rattle.std.specs.Io.Iter.{u64_saturate}
use Rattle.soak_parts.proofs.audit.all_anew.Given as goal

abbrev pub invariant-loop-server : goal.invariant-loop-server
invariant-loop-server l = l.total ≡ u64_saturate (member_sum (λ s. stored l.one.object s + stored l.other.object s) 0 l.server)
