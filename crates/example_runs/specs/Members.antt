-- The contracts that docs/trusted.md lists do not depend on this file; other contracts and proofs do.
-- What happens to one process of a run.
use Rattle.std.specs.Prelude.{◌≡◌, ◌∷◌, ◌++◌, ℕ, List, [], None, Some, take}
use Rattle.std.specs.List.{filter}
use Rattle.cluster_file.specs.File.{FileContents}
use Rattle.deeds.specs.Deeds.{Notice}
use Rattle.node.specs.Handles.{Handles as HandlesFrame}
use Rattle.node.specs.Starts.{CanBeNamed, start_entries}
use Rattle.node.specs.declared.node.Node.{Node}
use Rattle.node_effects.specs.declared.effects.Effects.{Effects}
use Rattle.node_effects.specs.declared.output.Output.{Output}
use Rattle.node_effects.specs.declared.output.Output.TheVariants as output
use Rattle.node_keeper.specs.Keeping.{kept_of, names_of}
use Rattle.node_log.specs.Entry.{chain_behind, first_chain}
use Rattle.node_store.specs.Recovery.{log_bytes}
use Rattle.node_store.specs.declared.end.LogEnd.{LogEnd}
use Rattle.node_strings.specs.Strings.{Strings}
use Rattle.processes.specs.Events.{is_begun, is_told, noticed_by}
use Rattle.processes.specs.Processes.{Processes, SentFrame, new_processes}
use Rattle.processes.specs.Programs.{IsStart}
use Rattle.recoveries.specs.Records.{IsStarted}
use Rattle.example_runs.specs.declared.members.Member.{Member}

-- a process that has never been started
pub record IsNewMember (member : Member) : Type 0 where
  pub stopped : member.node ≡ None
  pub log : member.log.items ≡ []
  pub chain : member.chain.state ≡ first_chain

-- the log got these entries, and nothing else changed
pub record HasGrown (entries : List Strings) (old new : Member) : Type 0 where
  pub log : new.log.items ≡ old.log.items ++ log_bytes old.chain.state entries
  pub chain : new.chain.state ≡ chain_behind old.chain.state entries
  pub node : new.node ≡ old.node

-- a node that has carried out the log, which ends there, was started, which changed nothing at its desk; what stood
-- behind that end was cut off, and the log got the entries of the start
pub record HasBegun (copy : Node) (end : LogEnd) (old new : Member) : Type 0 where
  pub node : Node
  pub runs : new.node ≡ Some node
  pub named : CanBeNamed copy
  pub started : IsStarted (kept_of copy.keeper) (kept_of node.keeper)
  pub desk : node.desk ≡ copy.desk
  pub log : new.log.items ≡ take end.length old.log.items ++ log_bytes end.chain.state (start_entries copy)
  pub chain : new.chain.state ≡ chain_behind end.chain.state (start_entries copy)

-- a stopped process of this number, whose cluster file is this one, was started from what its log has
pub record HasStarted (file : FileContents) (number : ℕ) (old new : Member) : Type 0 where
  pub stopped : old.node ≡ None
  pub node : Node
  pub runs : new.node ≡ Some node
  pub start : IsStart (names_of file) number old.log.items node new.chain.state (Some new.log.items)

-- a node of the process handled a frame, and nothing else changed; what the node wants is still to be done
abbrev pub HasHandled : (frame : Strings) → Effects → (old new : Member) → Type 0
HasHandled frame effects old new = (node after : Node) × (old.node ≡ Some node) × HandlesFrame node frame effects after
    × (new ≡ record old { node = Some after })

-- the frames to nodes among these outputs, as the process of this number writes them
abbrev pub frames_from : (sender : ℕ) → List Output → List SentFrame
frames_from sender [] = []
frames_from sender (output.Log entry ∷ outputs) = frames_from sender outputs
frames_from sender (output.Send frame ∷ outputs) =
    record { sender = sender; frame = frame } ∷ frames_from sender outputs

-- of these notices, those of calls that begin, and behind them those of answers
abbrev pub seen_among : List Notice → List Notice
seen_among notices = filter is_begun notices ++ filter is_told notices

-- what clients see of what came of a frame, if the answers are written at once
abbrev pub seen_by : Effects → List Notice
seen_by effects = seen_among (noticed_by effects)

-- processes that wrote these frames to nodes, and did nothing else
abbrev pub with_sent : List SentFrame → Processes
with_sent sent = record new_processes { sent = sent }
