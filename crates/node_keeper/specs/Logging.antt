-- The entries of a node's log, and what they record.
use Rattle.std.specs.Prelude.{◌≡◌, ℕ, List, [], ◌∷◌, Option, None, Some, Result, Ok, Err}
use Rattle.letter.specs.declared.letter.Letter.{Letter}
use Rattle.node_log.specs.Entry.{IsEntry}
use Rattle.node_messages.specs.Reading.{message_from}
use Rattle.node_messages.specs.Strings.{strings_of}
use Rattle.node_messages.specs.declared.error.Fault.{Fault}
use Rattle.node_messages.specs.declared.message.NodeMessage.{NodeMessage}
use Rattle.node_strings.specs.Record.{record_at, record_strings}
use Rattle.node_strings.specs.declared.record.Record.{Record}
use Rattle.node_strings.specs.declared.record.Record.TheVariants as record_of
use Rattle.recoveries.specs.Records.{LogRecord}
use Rattle.node_strings.specs.Strings.{Strings}
use Rattle.node_keeper.specs.Sendings.{message_of}

-- the entry that records that an epoch began
abbrev pub start_entry : Strings
start_entry = record_strings record_of.Start

-- the strings of the entry of a record
abbrev pub strings_for : (digest : List ℕ) → LogRecord → Strings
strings_for digest LogRecord.Starts = record_strings record_of.Start
strings_for digest (LogRecord.Serves name letter) =
    record_strings (record_of.Serve (strings_of (message_of digest (record { name = name; letter = letter }))))
strings_for digest (LogRecord.Takes name letter) =
    record_strings (record_of.Take (strings_of (message_of digest (record { name = name; letter = letter }))))
strings_for digest (LogRecord.Moves name id layout) = record_strings (record_of.Move id name layout)
strings_for digest (LogRecord.Hears name position layout) = record_strings (record_of.Hear position name layout)
strings_for digest (LogRecord.Closes name position) = record_strings (record_of.Close position name)

-- the entry of a record, in the log of a node with the cluster file of this digest
abbrev pub log_entry_of : (digest : List ℕ) → LogRecord → Strings
log_entry_of digest it = strings_for digest it

-- What is read from a log

-- what an entry with a letter records, if its strings were read as a message
abbrev pub letter_records : ((name : List ℕ) → Letter → LogRecord) → Result NodeMessage Fault → List LogRecord
letter_records recorded (Ok message) = recorded message.named.name message.named.letter ∷ []
letter_records recorded (Err fault) = []

-- what a record of a log says that the node did: nothing, if it names the cluster and the node
abbrev pub deeds_of : Record → List LogRecord
deeds_of (record_of.Cluster digest node) = []
deeds_of record_of.Start = LogRecord.Starts ∷ []
deeds_of (record_of.Serve frame) = letter_records LogRecord.Serves (message_from frame)
deeds_of (record_of.Take frame) = letter_records LogRecord.Takes (message_from frame)
deeds_of (record_of.Move id name layout) = LogRecord.Moves name id layout ∷ []
deeds_of (record_of.Hear position name layout) = LogRecord.Hears name position layout ∷ []
deeds_of (record_of.Close position name) = LogRecord.Closes name position ∷ []

-- what a record of a log says that the node did, if there is a record; if there is none, the node did nothing
abbrev pub deeds_if : Option Record → List LogRecord
deeds_if None = []
deeds_if (Some it) = deeds_of it

-- what an entry with these strings records
abbrev pub records_in : Strings → List LogRecord
records_in strings = deeds_if (record_at strings)

-- the strings of a record are an entry, which is read as that record
pub record IsReadBack (digest : List ℕ) (it : LogRecord) : Type 0 where
  pub entry : IsEntry (strings_for digest it)
  pub same : records_in (strings_for digest it) ≡ it ∷ []
