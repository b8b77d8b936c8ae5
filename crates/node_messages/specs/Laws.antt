-- The contracts that docs/trusted.md lists do not depend on this file; other contracts and proofs do.
-- What is written is read back, and nothing else is read.
use Rattle.std.specs.Prelude.{◌≡◌, ◌≤◌, length, IfSome, Ok}
use Rattle.frames.specs.declared.limits.TheConstants.{LONGEST_STRING}
use Rattle.mail.specs.Message.{message_bytes}
use Rattle.node_strings.specs.Strings.{Strings}
use Rattle.node_messages.specs.declared.message.NodeMessage.{NodeMessage}
use Rattle.node_messages.specs.Message.{IsMessage}
use Rattle.node_messages.specs.Reading.{message_from}
use Rattle.node_messages.specs.Strings.{strings_of, told_piece}
use Rattle.node_messages.specs.Writing.{strings_or_fault}

-- the strings of a message are read as that message
abbrev pub WrittenMessageIsRead : Type 0
WrittenMessageIsRead = (m : NodeMessage) → IsMessage m → message_from (strings_of m) ≡ Ok m

-- what is read as a message is one, and the strings are those of that message
abbrev pub ReadMessageWasWritten : Type 0
ReadMessageWasWritten = (strings : Strings) (m : NodeMessage) → message_from strings ≡ Ok m
    → IsMessage m × (strings ≡ strings_of m)

-- two messages with the same strings are the same message
abbrev pub StringsNameOneMessage : Type 0
StringsNameOneMessage =
    (l m : NodeMessage) → IsMessage l → IsMessage m → strings_of l ≡ strings_of m → l ≡ m

-- a message has a frame if neither its piece nor the piece that is told is longer than a string of a frame
abbrev pub ShortPiecesHaveFrames : Type 0
ShortPiecesHaveFrames = (m : NodeMessage) → IsMessage m → message_bytes m.named.letter.message ≤ LONGEST_STRING
    → IfSome (told_piece m.named.letter.told) (λ piece. length piece.bytes ≤ LONGEST_STRING)
    → strings_or_fault m ≡ Ok (strings_of m)
