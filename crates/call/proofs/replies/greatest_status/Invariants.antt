use Rattle.std.proofs.Common.{◌≡◌, drop}
use Rattle.record.specs.PhaseOrder.{later_status, greatest_status}
use Rattle.call.proofs.replies.greatest_status.Given as goal

abbrev pub invariant-loop-taken : goal.invariant-loop-taken
invariant-loop-taken l = later_status l.greatest (greatest_status (drop l.taken-index l.replies)) ≡ greatest_status l.replies
