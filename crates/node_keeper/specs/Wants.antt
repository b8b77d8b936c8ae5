-- What a node wants to leave it, in the order in which it wants that: records for its log, and letters.
use Rattle.std.specs.Prelude.{ℕ, ◌==◌, if◌then◌else◌, List, [], ◌∷◌}
use Rattle.recoveries.specs.Records.{LogRecord}
use Rattle.recoveries.specs.Stops.{Output as Left}
use Rattle.node_effects.specs.Seen.{named_of}
use Rattle.node_effects.specs.declared.output.Output.{Output}
use Rattle.node_effects.specs.declared.output.Output.TheVariants as output
use Rattle.node_keeper.specs.Logging.{log_entry_of}
use Rattle.node_keeper.specs.Sendings.{Sending, frame_to}

-- the log gets a record, or a letter goes to a node
pub data Want : Type 0 where
  Logs : LogRecord → Want
  Sends : Sending → Want

-- the records among these, in their order
abbrev pub records_in : List Want → List LogRecord
records_in [] = []
records_in (Want.Logs it ∷ wants) = it ∷ records_in wants
records_in (Want.Sends send ∷ wants) = records_in wants

-- the letters among these, in their order
abbrev pub sends_in : List Want → List Sending
sends_in [] = []
sends_in (Want.Logs it ∷ wants) = sends_in wants
sends_in (Want.Sends send ∷ wants) = send ∷ sends_in wants

-- the records and letters among these, in their order, without the nodes to which the letters go
abbrev pub left_by : List Want → List Left
left_by [] = []
left_by (Want.Logs it ∷ wants) = Left.Logs it ∷ left_by wants
left_by (Want.Sends send ∷ wants) = Left.Sends (named_of send.it) ∷ left_by wants

-- what the node of this number puts out for these: the entry of each record, and the frame of each letter to another
-- node
abbrev pub outputs_of : (number : ℕ) → (digest : List ℕ) → List Want → List Output
outputs_of number digest [] = []
outputs_of number digest (Want.Logs it ∷ wants) = output.Log (log_entry_of digest it) ∷ outputs_of number digest wants
outputs_of number digest (Want.Sends send ∷ wants) =
    if send.to == number then outputs_of number digest wants
    else output.Send (frame_to digest send) ∷ outputs_of number digest wants
