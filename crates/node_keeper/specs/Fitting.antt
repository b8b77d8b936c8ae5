-- Which letters can be sent, and which records can go to a log.
use Rattle.std.specs.Prelude.{◌≡◌, ◌<◌, ◌^◌, ℕ, List}
use Rattle.std.specs.List.{AllByRecursion}
use Rattle.frames.specs.Frame.{IsFrame}
use Rattle.layout.specs.Layout.{IsLawful}
use Rattle.node_log.specs.Entry.{IsEntry}
use Rattle.node_messages.specs.Message.{IsMessage}
use Rattle.recoveries.specs.Records.{LogRecord}
use Rattle.node_keeper.specs.Logging.{strings_for}
use Rattle.node_keeper.specs.Sendings.{Sending, frame_to, message_of}

-- the letter is a message between nodes, and the address of a node and the strings of that message make a frame
pub record HasFrame (digest : List ℕ) (send : Sending) : Type 0 where
  pub message : IsMessage (message_of digest send.it)
  pub frame : IsFrame (frame_to digest send)

-- the node of this number can send the letter: it stays with the node, or it has a frame
abbrev pub IsSendable : (number : ℕ) → (digest : List ℕ) → Sending → Type 0
IsSendable number digest send = (send.to ≡ number → ⊥) → HasFrame digest send

-- the letter in a record, if there is one, is a message between nodes; a position that the node has heard of, or whose
-- bank it closed, fits 32 bits; and the layout of one that it has heard of is lawful
abbrev pub HasMessage : (digest : List ℕ) → LogRecord → Type 0
HasMessage digest LogRecord.Starts = Unit {0}
HasMessage digest (LogRecord.Serves name letter) =
    IsMessage (message_of digest (record { name = name; letter = letter }))
HasMessage digest (LogRecord.Takes name letter) =
    IsMessage (message_of digest (record { name = name; letter = letter }))
HasMessage digest (LogRecord.Moves name id layout) = Unit {0}
HasMessage digest (LogRecord.Hears name position layout) = (position < 2 ^ 32) × IsLawful layout
HasMessage digest (LogRecord.Closes name position) = position < 2 ^ 32

-- the record can go to the log: what is in it can be written, and its strings are those of an entry
pub record IsLoggable (digest : List ℕ) (it : LogRecord) : Type 0 where
  pub message : HasMessage digest it
  pub entry : IsEntry (strings_for digest it)

-- a node of this number can write all of this: the records to its log, and the letters to nodes
pub record CanBeWritten (number : ℕ) (digest : List ℕ) (records : List LogRecord) (sends : List Sending) : Type 0 where
  pub logged : AllByRecursion (IsLoggable digest) records
  pub sent : AllByRecursion (IsSendable number digest) sends
