-- The letters in frames that processes write.
use Rattle.std.specs.Prelude.{◌≡◌, ℕ, List}
use Rattle.std.specs.List.{AllByRecursion}
use Rattle.deeds.specs.Named.{NamedLetter as Named, IsOneOf}
use Rattle.node_messages.specs.Message.{IsMessage}
use Rattle.node_strings.specs.Strings.{Strings}
use Rattle.node_effects.specs.Seen.{named_of}
use Rattle.node_keeper.specs.Sendings.{Sending, frame_to, message_of}
use Rattle.processes.specs.Processes.{Processes, SentFrame}

-- the frame carries one of these letters, to some node, and can be read as a message with it
pub record IsCarried (letters : List Named) (frame : Strings) : Type 0 where
  pub digest : List ℕ
  pub send : Sending
  pub whole : frame ≡ frame_to digest send
  pub message : IsMessage (message_of digest send.it)
  pub one : IsOneOf letters (named_of send.it)

-- all frames to nodes that processes wrote carry these letters
abbrev pub CarryLetters : Processes → List Named → Type 0
CarryLetters processes letters = AllByRecursion (λ (it : SentFrame). IsCarried letters it.frame) processes.sent
