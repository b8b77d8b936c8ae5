use Rattle.std.proofs.Common.{◌≡◌, sum_by, take}
use Rattle.mail.specs.Message.{message_bytes}
use Rattle.mail.proofs.mail.bytes_of.Given as goal

abbrev pub invariant-loop-message : goal.invariant-loop-message
invariant-loop-message l = l.total ≡ sum_by message_bytes (take l.message-index l.messages)
