-- How many bytes messages with short pieces have.
use Rattle.std.proofs.Common.{◌+◌, ◌*◌, ◌≤◌, List, [], ◌∷◌, length, arith}
use Rattle.std.specs.List.{AllByRecursion}
use Rattle.std.proofs.lemmas.List.Sums.{sum_by-cons}
use Rattle.tag.specs.declared.limits.TheConstants.{LONGEST_VALUE, MOST_BYTES, MOST_MESSAGES}
use Rattle.mail.specs.declared.message.Message.{Message}
use Rattle.mail.specs.Message.{message_bytes}
use Rattle.mail.specs.Mail.{mail_bytes}

short_bytes : (messages : List Message) → AllByRecursion (λ m. message_bytes m ≤ LONGEST_VALUE) messages
    → mail_bytes messages ≤ length messages * LONGEST_VALUE
short_bytes [] short = omega arith
short_bytes (m ∷ ms) short =
    let rest = short_bytes ms short.1 in let first = short.0 in omega (arith, sum_by-cons message_bytes m ms, rest, first)

pub pieces_fit : (messages : List Message) → length messages ≤ MOST_MESSAGES
    → AllByRecursion (λ m. message_bytes m ≤ LONGEST_VALUE) messages
    → mail_bytes messages + LONGEST_VALUE ≤ MOST_BYTES
pieces_fit messages places short = let bytes = short_bytes messages short in omega arith
