-- What may happen to the processes of a cluster, and what comes of it.
use Rattle.std.specs.Prelude.{◌≡◌, ◌≤◌, ⊤, ℕ, Bool, true, false, List, [], ◌∷◌, ◌++◌, length, drop}
use Rattle.std.specs.Prelude.{Option, None, Some, is_some, slice_get}
use Rattle.std.specs.List.{AllByRecursion, filter}
use Rattle.cluster_file.specs.File.{FileContents, IsLawfulFile}
use Rattle.deeds.specs.Deeds.{Notice}
use Rattle.deeds.specs.Kept.{FileOfNames, new_node}
use Rattle.recoveries.specs.Records.{IsStarted}
use Rattle.node_strings.specs.Arrival.{arrival_at, node_address}
use Rattle.node_strings.specs.declared.arrival.Arrival.{Arrival}
use Rattle.node_strings.specs.declared.arrival.Arrival.TheVariants as came
use Rattle.node_strings.specs.Strings.{Strings}
use Rattle.node_effects.specs.Seen.{all_seen}
use Rattle.node_effects.specs.Work.{entries_in}
use Rattle.node_effects.specs.declared.effects.Effects.{Effects}
use Rattle.node_keeper.specs.Keeping.{kept_of, names_of}
use Rattle.node.specs.Anew.{AreAnew, CarriesOutAll}
use Rattle.node.specs.Handles.{Handles as HandlesFrame}
use Rattle.node.specs.Recovering.{Notes as NotesLength}
use Rattle.node.specs.Starts.{CanBeNamed, start_entries}
use Rattle.node.specs.declared.node.Node.{Node}
use Rattle.node_log.specs.Entry.{first_chain}
use Rattle.node_log.specs.Reading.{IsEnd}
use Rattle.node_store.specs.Laws.{IsLeft}
use Rattle.node_store.specs.Recovery.{BeginsWith, IsWholeEntry}
use Rattle.processes.specs.Processes.{Process, Processes, SentFrame, WaitingAnswers, WaitingFrame, frames_behind}
use Rattle.processes.specs.Processes.{with_process}

-- What happens to the process of the node of a number:
-- - it starts: it reads these entries from its log, and a new node carries them out again; its log may be written anew,
--   with these entries; and then the node is started;
-- - its node is told how long the log is;
-- - its node handles a frame;
-- - so many first entries of the log are synced;
-- - it writes a frame to a node, which waited;
-- - it writes the answers that have waited longest;
-- - its log is written anew, with these entries;
-- - it stops, at any moment between two of these.
pub data ProcessEvent : Type 0 where
  Starts : (number : ℕ) → (read : List Strings) → (anew : Option (List Strings)) → (new copy after : Node) →
      ProcessEvent
  Notes : (number : ℕ) → (after : Node) → ProcessEvent
  Handles : (number : ℕ) → (frame : Strings) → Effects → (after : Node) → ProcessEvent
  Syncs : (number : ℕ) → (count : ℕ) → ProcessEvent
  Sends : (number : ℕ) → (frame : Strings) → ProcessEvent
  Tells : (number : ℕ) → ProcessEvent
  Rewrites : (number : ℕ) → (entries : List Strings) → ProcessEvent
  Stops : (number : ℕ) → ProcessEvent

-- the number of the node to whose process it happens
abbrev pub number_of : ProcessEvent → ℕ
number_of (ProcessEvent.Starts number read anew new copy after) = number
number_of (ProcessEvent.Notes number after) = number
number_of (ProcessEvent.Handles number frame effects after) = number
number_of (ProcessEvent.Syncs number count) = number
number_of (ProcessEvent.Sends number frame) = number
number_of (ProcessEvent.Tells number) = number
number_of (ProcessEvent.Rewrites number entries) = number
number_of (ProcessEvent.Stops number) = number

-- What comes of it

-- the id of the call that began, if the notice says that one began
abbrev pub call_begun : Notice → Option ℕ
call_begun (Notice.Reads name id) = Some id
call_begun (Notice.Writes name id value) = Some id
call_begun (Notice.Moves name id layout) = Some id
call_begun (Notice.Tells name ended) = None

-- whether a notice says that a call began, and not that a client is told an answer
abbrev pub is_begun : Notice → Bool
is_begun notice = is_some (call_begun notice)

-- whether a notice says that a client is told an answer
abbrev pub is_told : Notice → Bool
is_told (Notice.Tells name ended) = true
is_told notice = false

-- the notices of what came of a frame
abbrev pub noticed_by : Effects → List Notice
noticed_by effects = all_seen effects.notices.items

-- the process after its node has handled a frame: what the node wants waits
abbrev pub handled_process : Process → Effects → Node → Process
handled_process process effects after =
    let log = process.log ++ entries_in effects.outputs.items in record {
      running = Some after;
      log = log;
      synced = process.synced;
      frames = process.frames ++ frames_behind (length process.log) effects.outputs.items;
      answers = process.answers ++ record {
        behind = length log;
        frames = effects.answers.items;
        told = filter is_told (noticed_by effects);
      } ∷ [];
    }

-- the entries of a log that was read, or with which it was then written anew
abbrev pub found_log : (read : List Strings) → (anew : Option (List Strings)) → List Strings
found_log read None = read
found_log read (Some entries) = entries

-- how many of them are synced: all, if the log was written anew
abbrev pub found_synced : (synced : ℕ) → (anew : Option (List Strings)) → ℕ
found_synced synced None = synced
found_synced synced (Some entries) = length entries

-- the process after its start: its log gets the entries of the start
abbrev pub started_process : Process → (read : List Strings) → (anew : Option (List Strings)) → (copy after : Node) →
    Process
started_process process read anew copy after = record {
  running = Some after;
  log = found_log read anew ++ start_entries copy;
  synced = found_synced process.synced anew;
  frames = [];
  answers = [];
}

-- the process after its log was written anew
abbrev pub rewritten_process : Process → List Strings → Process
rewritten_process process entries =
    record process { log = entries; synced = length entries; frames = []; answers = [] }

-- the process of this event afterwards
abbrev pub process_after : Process → ProcessEvent → Process
process_after process (ProcessEvent.Starts number read anew new copy after) =
    started_process process read anew copy after
process_after process (ProcessEvent.Notes number after) = record process { running = Some after }
process_after process (ProcessEvent.Handles number frame effects after) = handled_process process effects after
process_after process (ProcessEvent.Syncs number count) = record process { synced = count }
process_after process (ProcessEvent.Sends number frame) = process
process_after process (ProcessEvent.Tells number) = record process { answers = drop 1 process.answers }
process_after process (ProcessEvent.Rewrites number entries) = rewritten_process process entries
process_after process (ProcessEvent.Stops number) = record process { running = None; frames = []; answers = [] }

-- the frames to nodes that are written in this event
abbrev pub sent_by : ProcessEvent → List SentFrame
sent_by (ProcessEvent.Sends number frame) = record { sender = number; frame = frame } ∷ []
sent_by event = []

-- what clients are told by the answers that have waited longest
abbrev pub first_told : List WaitingAnswers → List Notice
first_told [] = []
first_told (first ∷ rest) = first.told

-- what clients see in this event: calls that begin, or the answers that are written
abbrev pub seen_in : Process → ProcessEvent → List Notice
seen_in process (ProcessEvent.Handles number frame effects after) = filter is_begun (noticed_by effects)
seen_in process (ProcessEvent.Tells number) = first_told process.answers
seen_in process event = []

-- the processes after an event
abbrev pub processes_after : Processes → ProcessEvent → Processes
processes_after processes event =
    let process = processes.at (number_of event) in record {
      at = with_process processes.at (number_of event) (process_after process event);
      sent = processes.sent ++ sent_by event;
      seen = processes.seen ++ seen_in process event;
    }

-- When it may happen

-- a new node of this number, whose cluster file has these settings, and whose desk has no call
pub record IsNewNode (names : FileOfNames) (number : ℕ) (node : Node) : Type 0 where
  pub file : FileContents
  pub lawful : IsLawfulFile file
  pub same : names_of file ≡ names
  pub kept : kept_of node.keeper ≡ new_node (names_of file) number
  pub calls : node.desk.calls.entries ≡ []

-- these are the entries of a log that the node writes anew, if it does
abbrev pub AreAnewIf : Node → Option (List Strings) → Type 0
AreAnewIf node None = ⊤
AreAnewIf node (Some entries) = AreAnew node entries

-- A stopped process starts: these bytes are left of its log, and it reads these entries from them, up to where the log
-- ends. A new node carries them out again. Its log may then be written anew, and the node is started, which changes
-- nothing at its desk. The entry that names the cluster and the node is one.
pub record MayStart (names : FileOfNames) (number : ℕ) (process : Process) (read : List Strings)
    (anew : Option (List Strings)) (new copy after : Node) : Type 0 where
  pub stopped : process.running ≡ None
  pub disk : List ℕ
  pub left : IsLeft process.log process.synced disk
  pub whole : AllByRecursion IsWholeEntry read
  pub begins : BeginsWith first_chain read IsEnd disk
  pub is_new : IsNewNode names number new
  pub recovered : CarriesOutAll new read copy
  pub rewritten : AreAnewIf copy anew
  pub named : CanBeNamed copy
  pub started : IsStarted (kept_of copy.keeper) (kept_of after.keeper)
  pub desk : after.desk ≡ copy.desk

-- a message from a node was sent by that node: the network makes up no message, and changes none
abbrev pub WasWritten : Processes → (number : ℕ) → Option Arrival → Type 0
WasWritten processes number (Some (came.Message sender strings)) =
    (place : ℕ)
    × (slice_get processes.sent place ≡ Some (record { sender = sender; frame = node_address number ∷ strings }))
WasWritten processes number arrival = ⊤

-- the process runs, and its node does this
abbrev pub RunsAs : Process → (Node → Type 0) → Type 0
RunsAs process P = (node : Node) × (process.running ≡ Some node) × P node

-- the frame waits, and the entries are synced behind which it waits
abbrev pub MaySend : Process → (frame : Strings) → Type 0
MaySend process frame =
    (place : ℕ) × (waiting : WaitingFrame) × (slice_get process.frames place ≡ Some waiting)
    × (waiting.frame ≡ frame) × (waiting.behind ≤ process.synced)

-- answers wait, and the entries are synced behind which the first ones wait
abbrev pub MayTell : Process → Type 0
MayTell process =
    (first : WaitingAnswers) × (rest : List WaitingAnswers) × (process.answers ≡ first ∷ rest)
    × (first.behind ≤ process.synced)

-- the event may happen; the cluster file of each node has the settings `names`
abbrev pub MayHappenTo : FileOfNames → Processes → ProcessEvent → Type 0
MayHappenTo names processes (ProcessEvent.Starts number read anew new copy after) =
    MayStart names number (processes.at number) read anew new copy after
MayHappenTo names processes (ProcessEvent.Notes number after) =
    RunsAs (processes.at number) (λ node. (bytes : ℕ) × NotesLength node bytes after)
MayHappenTo names processes (ProcessEvent.Handles number frame effects after) =
    RunsAs (processes.at number) (λ node. HandlesFrame node frame effects after)
    × WasWritten processes number (arrival_at frame)
MayHappenTo names processes (ProcessEvent.Syncs number count) =
    ((processes.at number).synced ≤ count) × (count ≤ length (processes.at number).log)
MayHappenTo names processes (ProcessEvent.Sends number frame) = MaySend (processes.at number) frame
MayHappenTo names processes (ProcessEvent.Tells number) = MayTell (processes.at number)
MayHappenTo names processes (ProcessEvent.Rewrites number entries) =
    RunsAs (processes.at number) (λ node. AreAnew node entries)
    × ((processes.at number).synced ≡ length (processes.at number).log)
MayHappenTo names processes (ProcessEvent.Stops number) = ⊤
