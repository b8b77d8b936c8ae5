use Rattle.std.proofs.Common.{◌≡◌, ◌+◌, sum_by, take}
use Rattle.mail.specs.Message.{message_bytes}
use Rattle.mail.proofs.mail.are_within.Given as goal

abbrev pub invariant-loop-message : goal.invariant-loop-message
invariant-loop-message l = l.left + sum_by message_bytes (take l.message-index l.messages) ≡ l.most
