-- The contracts that docs/trusted.md lists do not depend on this file; other contracts and proofs do.
-- The law: what a node reads from a frame is a fit letter.
use Rattle.std.specs.Prelude.{◌≡◌, ◌≤◌, ◌<◌, ◌^◌, ℕ, List, Ok, length}
use Rattle.std.specs.List.{AllByRecursion}
use Rattle.frames.specs.Frame.{IsShort}
use Rattle.node_messages.specs.Reading.{message_from}
use Rattle.node_messages.specs.declared.message.NodeMessage.{NodeMessage}
use Rattle.node_strings.specs.Strings.{Strings}
use Rattle.tag.specs.declared.limits.TheConstants.{LONGEST_NAME}
use Rattle.fitting.specs.Letters.{IsFitLetter}

-- each number of a string is a byte
abbrev pub IsOfBytes : List ℕ → Type 0
IsOfBytes string = AllByRecursion (λ byte. byte < 2 ^ 8) string

-- a message that is read from short strings of bytes, as those of a frame are, has a short name and a fit letter
abbrev pub ReadLettersAreFit : Type 0
ReadLettersAreFit = (strings : Strings) (m : NodeMessage) → message_from strings ≡ Ok m →
    AllByRecursion IsShort strings → AllByRecursion IsOfBytes strings →
    (length m.named.name ≤ LONGEST_NAME) × IsFitLetter m.named.letter
