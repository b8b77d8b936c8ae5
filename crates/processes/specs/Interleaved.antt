-- The contracts that docs/trusted.md lists do not depend on this file; other contracts and proofs do.
-- What a node program does after its start, until it ends, while other processes do what they may.
use Rattle.std.specs.Prelude.{◌≡◌, ◌≢◌, ◌==◌, ◌++◌, if◌then◌else◌, ℕ, true, false, List, [], ◌∷◌, Option, Some, Ok}
use Rattle.std.specs.List.{AllByRecursion, flat_map}
use Rattle.std.specs.Io.KnownBytes.{Appends}
use Rattle.frames.specs.Frame.{frame_bytes}
use Rattle.deeds.specs.Kept.{FileOfNames}
use Rattle.node.specs.Handles.{Handles as HandlesFrame}
use Rattle.node.specs.Recovering.{Notes as NotesLength}
use Rattle.node.specs.declared.node.Node.{Node}
use Rattle.node_log.specs.Reading.{HadLeft}
use Rattle.node_store.specs.Laws.{IsLeft}
use Rattle.node_store.specs.Outputs.{AppendsFront}
use Rattle.node_store.specs.Rounds.{BetweenRounds, IsRound}
use Rattle.node_store.specs.Serving.{BeginsWithFrames, LoopEvent, ReadsFrames, ServesSome, StopsEarly, StopsServing}
use Rattle.node_store.specs.declared.stop.ServeError.{ServeError}
use Rattle.processes.specs.Events.{ProcessEvent, number_of, processes_after}
use Rattle.processes.specs.Loops.{AreOf, BringsWritten, IsBetweenRounds, frames_in}
use Rattle.processes.specs.Processes.{Process, Processes}
use Rattle.processes.specs.Programs.{IsHalfRewritten}
use Rattle.processes.specs.Runs.{AreOfPrograms, MayAllHappenTo, processes_run}
use Rattle.processes.specs.Sessions.{IsRenewal, ServesToEnd, ServesToExchange, ServesToStop}

-- The steps of a program

-- what a program does from one moment at which nothing waits to be written to the next one: a round of its loop, or it
-- perhaps writes its log anew; it is then like this
pub data SessionStep : Type 0 where
  Serves : (next : BetweenRounds Node) → SessionStep
  Renews : (next : BetweenRounds Node) → SessionStep

-- the program after a step
abbrev pub after_step : SessionStep → BetweenRounds Node
after_step (SessionStep.Serves next) = next
after_step (SessionStep.Renews next) = next

-- the program, which was like this, took the step
abbrev pub TakesStep : BetweenRounds Node → SessionStep → Type 0
TakesStep now (SessionStep.Serves next) = IsRound HandlesFrame NotesLength now next
TakesStep now (SessionStep.Renews next) = IsRenewal now next

-- the program went from the one to the other by these steps
abbrev pub TakesSteps : (first : BetweenRounds Node) → List SessionStep → (last : BetweenRounds Node) → Type 0
TakesSteps first [] last = last ≡ first
TakesSteps first (step ∷ steps) last = TakesStep first step × TakesSteps (after_step step) steps last

-- the frames of these events were read in the step
abbrev pub ReadsInStep : BetweenRounds Node → SessionStep → List LoopEvent → Type 0
ReadsInStep now (SessionStep.Serves next) events = ReadsFrames now.left next.left events true
ReadsInStep now (SessionStep.Renews next) events = events ≡ []

-- Events of all processes

-- none of these events happens to the process of the node of this number
abbrev pub AreOfOthers : (number : ℕ) → List ProcessEvent → Type 0
AreOfOthers number events = AllByRecursion (λ event. number_of event ≢ number) events

-- the bytes that the process of this number writes in an event, which may be that of any process
abbrev pub bytes_of : (number : ℕ) → ProcessEvent → Processes → List ℕ
bytes_of number event processes =
    if number_of event == number then flat_map frame_bytes (frames_in (processes.at (number_of event)) event) else []

-- the bytes that it writes in these events, one after another
abbrev pub written_by : (number : ℕ) → List ProcessEvent → Processes → List ℕ
written_by number [] processes = []
written_by number (event ∷ events) processes =
    bytes_of number event processes ++ written_by number events (processes_after processes event)

module _ (names : FileOfNames) (number : ℕ) (from : Processes) where
  -- These events may happen, one after another. In them, the process of this number does what programs do. It has
  -- written what the program has written, whose output held these bytes at first; and then it rests as the program
  -- does.
  pub record IsAsProgram (held : Option (List ℕ)) (now : BetweenRounds Node) (done : List ProcessEvent) : Type 0 where
    pub may : MayAllHappenTo names done from
    pub programs : AreOfPrograms number done from
    pub wrote : Appends held now.held (written_by number done from)
    pub rests : IsBetweenRounds ((processes_run done from).at number) now.machine now.chain now.kept

  -- Whatever other processes do behind these events: if then each message was written that is read now, there are more
  -- events, of this process alone, which may happen behind all of these. What this process does in all events is such
  -- as programs do it; and then this holds of all events.
  abbrev pub GoesOnAmongOthers : (done : List ProcessEvent) → (AreRead : List LoopEvent → Type 0)
      → (Holds : List ProcessEvent → Type 0) → Type 0
  GoesOnAmongOthers done AreRead Holds = (others : List ProcessEvent) → AreOfOthers number others
      → MayAllHappenTo names (done ++ others) from
      → BringsWritten (processes_run (done ++ others) from) number AreRead
      → (own : List ProcessEvent) × AreOf number own × MayAllHappenTo names ((done ++ others) ++ own) from
      × AreOfPrograms number ((done ++ others) ++ own) from × Holds ((done ++ others) ++ own)

  -- the same step by step: before each step, other processes do what they may, and behind each step, the process is as
  -- the program; and behind all steps, this holds of all events
  abbrev pub ServesAmongOthers : (held : Option (List ℕ)) → List SessionStep → (now : BetweenRounds Node)
      → (done : List ProcessEvent) → (Holds : List ProcessEvent → Type 0) → Type 0
  ServesAmongOthers held [] now done Holds = IsAsProgram held now done × Holds done
  ServesAmongOthers held (step ∷ steps) now done Holds = IsAsProgram held now done
      × GoesOnAmongOthers done (ReadsInStep now step)
      (λ all. ServesAmongOthers held steps (after_step step) all Holds)

-- The program took some steps from this moment on, and then came to its end. Each step is a list of events of the
-- process, among those of others, and so is the end, in which these frames are read. Then this holds of the bytes that
-- the process has written in all events since then, and of the process.
pub record HaveEventsAmongOthers (names : FileOfNames) (number : ℕ) (from : Processes) (first : BetweenRounds Node)
    (Ends : BetweenRounds Node → Type 0) (AreRead : BetweenRounds Node → List LoopEvent → Type 0)
    (Holds : (written : List ℕ) → Process → Type 0) : Type 0 where
  pub steps : List SessionStep
  pub last : BetweenRounds Node
  pub taken : TakesSteps first steps last
  pub ends : Ends last
  pub among : ServesAmongOthers names number from first.held steps first []
      (λ done. GoesOnAmongOthers names number from done (AreRead last)
      (λ all. Holds (written_by number all from) ((processes_run all from).at number)))

-- What is left

-- the output, which held these bytes, got a front of those that were written, and what the log keeps is what a stop may
-- leave of the process's log
abbrev pub IsLeftBehind : (held holds keeps : Option (List ℕ)) → (written : List ℕ) → Process → Type 0
IsLeftBehind held holds keeps written process = AppendsFront held holds written
    × ((disk : List ℕ) × (keeps ≡ Some disk) × IsLeft process.log process.synced disk)

-- The laws

-- What a program does until its input ends is a list of events of its process, whatever other processes do before each
-- round, if only each message that a round reads was written before it. The process writes just the bytes that the
-- program writes, in its order, and ends as the program leaves the node and the log.
abbrev pub SessionsAreEvents : Type 0
SessionsAreEvents = (names : FileOfNames) (number : ℕ) (processes : Processes) (first : BetweenRounds Node)
    (input : List ℕ) (new : Node) (left keeps holds : Option (List ℕ)) → first.left ≡ Some input →
    IsBetweenRounds (processes.at number) first.machine first.chain first.kept →
    ServesToEnd first new left keeps holds →
    HaveEventsAmongOthers names number processes first
    (λ last. (chain : ℕ) × ServesSome HandlesFrame NotesLength last.chain chain last.machine new last.left left
    last.kept keeps last.held holds (Ok false))
    (λ last events. ReadsFrames last.left left events false)
    (λ written process. Appends first.held holds written × ((chain : ℕ) × IsBetweenRounds process new chain keeps))

-- So is what it does until its loop stops early. The program wrote a front of the bytes that the process writes, and
-- what the log keeps is what a stop may leave of the process's log.
abbrev pub StoppedSessionsAreEvents : Type 0
StoppedSessionsAreEvents = (names : FileOfNames) (number : ℕ) (processes : Processes) (first : BetweenRounds Node)
    (input : List ℕ) (new : Node) (left keeps holds : Option (List ℕ)) (error : ServeError) →
    first.left ≡ Some input → IsBetweenRounds (processes.at number) first.machine first.chain first.kept →
    ServesToStop first new left keeps holds error →
    HaveEventsAmongOthers names number processes first
    (λ last. StopsEarly HandlesFrame NotesLength last.chain last.machine last.left last.kept keeps last.held holds
    error)
    (λ last events. HadLeft (BeginsWithFrames events (StopsServing error)) last.left)
    (IsLeftBehind first.held holds keeps)

-- So is what it does until it cannot exchange its log. Whichever log it then has is that of the process.
abbrev pub UnexchangedSessionsAreEvents : Type 0
UnexchangedSessionsAreEvents = (names : FileOfNames) (number : ℕ) (processes : Processes) (first : BetweenRounds Node)
    (input : List ℕ) (left keeps holds : Option (List ℕ)) → first.left ≡ Some input →
    IsBetweenRounds (processes.at number) first.machine first.chain first.kept →
    ServesToExchange first left keeps holds →
    HaveEventsAmongOthers names number processes first
    (λ last. (left ≡ last.left) × (holds ≡ last.held) × IsHalfRewritten last.machine last.kept keeps)
    (λ last events. events ≡ [])
    (λ written process. Appends first.held holds written
    × ((node : Node) × (chain : ℕ) × IsBetweenRounds process node chain keeps))
