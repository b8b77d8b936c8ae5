use Rattle.std.proofs.Common.{◌≡◌}
use Rattle.call.proofs.MemberListLemmas.{first_of}
use Rattle.register.proofs.MemberLoopLemmas.{bank_for}
use Rattle.register.proofs.position.Position.new.Given as goal

-- the banks of the members so far
abbrev pub invariant-loop-member : goal.invariant-loop-member
invariant-loop-member l = l.banks.items ≡ first_of (bank_for l.delta l.now) l.member
