use Rattle.std.proofs.Common.{◌≡◌, drop}
use Rattle.record.specs.Wants.{value_len}
use Rattle.register.proofs.register.phases.value_len.Given as goal

-- what was passed over names no length
abbrev pub invariant-loop-taken : goal.invariant-loop-taken
invariant-loop-taken l = value_len (drop l.taken-index l.replies) ≡ value_len l.fn.replies
