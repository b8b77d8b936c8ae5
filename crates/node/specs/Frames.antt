-- The letters that frames carry.
use Rattle.std.specs.Prelude.{◌≡◌, ℕ, ◌||◌, ◌&&◌, Bool, if◌then◌else◌, List, []}
use Rattle.std.specs.Prelude.{Option, None, Some, Result, Ok, Err}
use Rattle.std.specs.Str.{bytes_eq}
use Rattle.layout.specs.Quorum.{has}
use Rattle.deeds.specs.Named.{NamedLetter as Named}
use Rattle.node_messages.specs.Limits.{has_low_tags}
use Rattle.node_messages.specs.Reading.{message_from}
use Rattle.node_messages.specs.declared.error.Fault.{Fault}
use Rattle.node_messages.specs.declared.message.NodeMessage.{NodeMessage}
use Rattle.node_strings.specs.Arrival.{arrival_at}
use Rattle.node_strings.specs.declared.arrival.Arrival.{Arrival}
use Rattle.node_strings.specs.declared.arrival.Arrival.TheVariants as came
use Rattle.node_effects.specs.Seen.{named_of}
use Rattle.node_strings.specs.Strings.{Strings}
use Rattle.letter.specs.declared.letter.NamedLetter.{NamedLetter}
use Rattle.node_keeper.specs.Keeping.{if_heeded, kept_of}
use Rattle.node_keeper.specs.declared.keeper.Keeper.{Keeper}

-- whether a message comes from a node of the cluster with the same cluster file
abbrev pub is_from_cluster : Keeper → (sender : ℕ) → NodeMessage → Bool
is_from_cluster keeper sender message =
    (has keeper.file.fixed.nodes sender || has keeper.file.later sender) && bytes_eq message.digest keeper.digest

-- whether a message comes from the cluster, and has no tag whose number is above the limit
abbrev pub is_admitted : Keeper → (sender : ℕ) → NodeMessage → Bool
is_admitted keeper sender message =
    is_from_cluster keeper sender message && has_low_tags message.named.letter

-- the letter of a message from the node of this number, if the message is admitted and the node heeds it
abbrev pub letter_from : Keeper → (sender : ℕ) → NodeMessage → List Named
letter_from keeper sender message =
    if is_admitted keeper sender message
    then if_heeded (kept_of keeper) (named_of message.named) else []

-- the frame is a message, and this is the letter of that message
abbrev pub IsLetterOf : Strings → NamedLetter → Type 0
IsLetterOf frame it = (message : NodeMessage) × (message_from frame ≡ Ok message) × (it ≡ message.named)

-- the letter of a message that was read, if one was
abbrev pub letter_if_read : Keeper → (sender : ℕ) → Result NodeMessage Fault → List Named
letter_if_read keeper sender (Ok message) = letter_from keeper sender message
letter_if_read keeper sender (Err fault) = []

-- the letter that has come, if one has
abbrev pub letter_of_arrival : Keeper → Arrival → List Named
letter_of_arrival keeper (came.Message sender frame) = letter_if_read keeper sender (message_from frame)
letter_of_arrival keeper arrival = []

-- the letter that has come, if anything has
abbrev pub letter_if_any : Keeper → Option Arrival → List Named
letter_if_any keeper None = []
letter_if_any keeper (Some arrival) = letter_of_arrival keeper arrival

-- the letter that a frame carries to the node, if it carries one
abbrev pub letters_in : Keeper → Strings → List Named
letters_in keeper frame = letter_if_any keeper (arrival_at frame)

-- the node from which something has come, or the given one if it did not come from a node
abbrev pub sender_of : ℕ → Arrival → ℕ
sender_of number (came.Message sender frame) = sender
sender_of number arrival = number

-- the node from which something has come, or the given one if nothing has come or it did not come from a node
abbrev pub sender_or : ℕ → Option Arrival → ℕ
sender_or number None = number
sender_or number (Some arrival) = sender_of number arrival
