-- What the loop of a node program does in a round, as events of the program's process.
use Rattle.std.specs.Prelude.{◌≡◌, ℕ, Bool, List, [], ◌∷◌, ◌++◌, length, Option, None, Some, Ok}
use Rattle.std.specs.List.{AllByRecursion, flat_map}
use Rattle.std.specs.Io.KnownBytes.{Appends}
use Rattle.frames.specs.Frame.{frame_bytes}
use Rattle.deeds.specs.Kept.{FileOfNames}
use Rattle.node_log.specs.Entry.{chain_behind, first_chain}
use Rattle.node_strings.specs.Arrival.{arrival_at}
use Rattle.node_strings.specs.Strings.{Strings}
use Rattle.node.specs.Handles.{Handles as HandlesFrame}
use Rattle.node.specs.Recovering.{Notes as NotesLength}
use Rattle.node.specs.declared.node.Node.{Node}
use Rattle.node_store.specs.Laws.{IsLeft}
use Rattle.node_store.specs.Outputs.{AppendsFront}
use Rattle.node_store.specs.Recovery.{log_bytes}
use Rattle.node_store.specs.Serving.{BeginsWithFrames, LoopEvent, ReadsFrames, ServesSome}
use Rattle.node_store.specs.Serving.{StopsEarly, StopsServing}
use Rattle.node_store.specs.declared.stop.ServeError.{ServeError}
use Rattle.processes.specs.Events.{ProcessEvent, WasWritten, number_of, processes_after}
use Rattle.processes.specs.Processes.{Process, Processes, WaitingAnswers}
use Rattle.processes.specs.Runs.{AreOfPrograms, MayAllHappenTo, processes_run}

-- What a process writes

-- the frames of the answers that have waited longest
abbrev pub first_frames : List WaitingAnswers → List Strings
first_frames [] = []
first_frames (first ∷ rest) = first.frames

-- the frames, to nodes or to clients, that a process writes in this event
abbrev pub frames_in : Process → ProcessEvent → List Strings
frames_in process (ProcessEvent.Sends number frame) = frame ∷ []
frames_in process (ProcessEvent.Tells number) = first_frames process.answers
frames_in process event = []

-- the bytes that processes write in these events, one after another
abbrev pub written_in : List ProcessEvent → Processes → List ℕ
written_in [] processes = []
written_in (event ∷ events) processes =
    flat_map frame_bytes (frames_in (processes.at (number_of event)) event)
    ++ written_in events (processes_after processes event)

-- all of these events happen to the process of the node of this number
abbrev pub AreOf : (number : ℕ) → List ProcessEvent → Type 0
AreOf number events = AllByRecursion (λ event. number_of event ≡ number) events

-- Between two rounds

-- a process runs this node, its log ends behind this chain and is synced, so these bytes are kept, and no answers wait
pub record IsBetweenRounds (process : Process) (node : Node) (chain : ℕ) (kept : Option (List ℕ)) : Type 0 where
  pub runs : process.running ≡ Some node
  pub synced : process.synced ≡ length process.log
  pub told : process.answers ≡ []
  pub chained : chain ≡ chain_behind first_chain process.log
  pub bytes : kept ≡ Some (log_bytes first_chain process.log)

-- the node is told a length, or if it handles a frame that is a message of a node, that node's process wrote it
abbrev pub WasWrittenIn : Processes → (number : ℕ) → LoopEvent → Type 0
WasWrittenIn processes number (LoopEvent.Notes bytes) = WasWritten processes number None
WasWrittenIn processes number (LoopEvent.Handles frame effects) = WasWritten processes number (arrival_at frame)

-- whichever frames were read here, the messages of nodes among them had been written by the processes of these
abbrev pub BringsWritten : Processes → (number : ℕ) → (List LoopEvent → Type 0) → Type 0
BringsWritten processes number AreRead =
    (events : List LoopEvent) → AreRead events → AllByRecursion (WasWrittenIn processes number) events

-- The laws

-- these events may happen to the process of the node of this number, one after another, and are such as programs make;
-- and then this holds of the bytes that they write and of the process
pub record HaveEvents (names : FileOfNames) (number : ℕ) (processes : Processes)
    (Holds : (written : List ℕ) → Process → Type 0) : Type 0 where
  pub events : List ProcessEvent
  pub own : AreOf number events
  pub may : MayAllHappenTo names events processes
  pub programs : AreOfPrograms number events processes
  pub holds : Holds (written_in events processes) ((processes_run events processes).at number)

-- A round of the loop is a list of events of the process: these write just the bytes that the loop writes, in its
-- order, and leave the process as the loop leaves the node and the log.
abbrev pub RoundsAreEvents : Type 0
RoundsAreEvents = (names : FileOfNames) (number : ℕ) (processes : Processes) (chain then : ℕ) (old new : Node)
    (input : List ℕ) (left kept keeps held holds : Option (List ℕ)) (goes_on : Bool) →
    IsBetweenRounds (processes.at number) old chain kept →
    ServesSome HandlesFrame NotesLength chain then old new (Some input) left kept keeps held holds (Ok goes_on) →
    BringsWritten processes number (λ events. ReadsFrames (Some input) left events goes_on) →
    HaveEvents names number processes
    (λ written process. Appends held holds written × IsBetweenRounds process new then keeps)

-- A round in which the loop stops early is a list of events of the process too. The loop wrote a front of the bytes
-- that these write, and what the log keeps is what a stop may leave of the process's log.
abbrev pub StopsAreEvents : Type 0
StopsAreEvents = (names : FileOfNames) (number : ℕ) (processes : Processes) (chain : ℕ) (old : Node)
    (input : List ℕ) (kept keeps held holds : Option (List ℕ)) (error : ServeError) →
    IsBetweenRounds (processes.at number) old chain kept →
    StopsEarly HandlesFrame NotesLength chain old (Some input) kept keeps held holds error →
    BringsWritten processes number (λ events. BeginsWithFrames events (StopsServing error) input) →
    HaveEvents names number processes
    (λ written process. AppendsFront held holds written
    × ((disk : List ℕ) × (keeps ≡ Some disk) × IsLeft process.log process.synced disk))
