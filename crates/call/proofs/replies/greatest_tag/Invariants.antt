use Rattle.std.proofs.Common.{◌≡◌, drop}
use Rattle.tag.specs.Tag.{later_tag}
use Rattle.record.specs.PhaseOrder.{greatest_tag}
use Rattle.call.proofs.replies.greatest_tag.Given as goal

abbrev pub invariant-loop-taken : goal.invariant-loop-taken
invariant-loop-taken l = later_tag l.greatest (greatest_tag (drop l.taken-index l.replies)) ≡ greatest_tag l.replies
