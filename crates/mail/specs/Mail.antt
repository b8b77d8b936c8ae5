-- The waiting messages in the order of their places, and how each operation changes them.
use Rattle.std.specs.Prelude.{◌≡◌, ℕ, nat_le, ◌&&◌, Bool, true, if◌then◌else◌, Option, Some, None}
use Rattle.std.specs.Prelude.{List, [], ◌∷◌, ◌++◌, length, sum_by, slice_get, slice_set}
use Rattle.tag.specs.declared.limits.TheConstants.{MOST_BYTES, MOST_MESSAGES}
use Rattle.tag.specs.declared.refusal.Refusal.{Refusal}
use Rattle.tag.specs.declared.refusal.Refusal.TheVariants.{Full}
use Rattle.bank.specs.declared.reply.Reply.{Reply}
use Rattle.mail.specs.declared.message.Message.{Message}
use Rattle.mail.specs.Message.{message_bytes, answered}
use Rattle.mail.specs.Bounds.{AreBounds}

-- the number of bytes of the pieces in all messages
abbrev pub mail_bytes : List Message → ℕ
mail_bytes messages = sum_by message_bytes messages

-- whether these messages may wait together: their number and the number of bytes of their pieces are within the limits
abbrev pub is_within : List Message → Bool
is_within messages = nat_le (length messages) MOST_MESSAGES && nat_le (mail_bytes messages) MOST_BYTES

-- the invariant of `Mail`: the messages may wait together, have these bounds, and their pieces have this many bytes
pub record IsKeptMail (messages : List Message) (bounds : List ℕ) (bytes : ℕ) : Type 0 where
  pub within : is_within messages ≡ true
  pub bounded : AreBounds 0 messages bounds
  pub sum : bytes ≡ mail_bytes messages

-- the cause of refusal, if these messages may not wait together: Full
abbrev pub mail_cause : List Message → Option Refusal
mail_cause messages = if is_within messages then None else Some Full

-- the mail with the reply in place of the message that was found there, if one was
abbrev pub replied_message : List Message → (place : ℕ) → Reply → Option Message → List Message
replied_message messages place r None = messages
replied_message messages place r (Some m) = slice_set messages place (answered m r)

-- the mail with the reply in place of the request at this place
abbrev pub replied : List Message → (place : ℕ) → Reply → List Message
replied messages place r = replied_message messages place r (slice_get messages place)

-- the mail with a copy of the given message, if there is one, at the end
abbrev pub repeated_message : List Message → Option Message → List Message
repeated_message messages None = messages
repeated_message messages (Some m) = messages ++ m ∷ []

-- the mail with a copy of the message at this place, if there is one, at the end
abbrev pub repeated : List Message → (place : ℕ) → List Message
repeated messages place = repeated_message messages (slice_get messages place)
