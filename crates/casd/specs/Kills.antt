-- The contracts that docs/trusted.md lists do not depend on this file; other contracts and proofs do.
-- What the program leaves, also if it is killed, as events of its process.
use Rattle.std.specs.Prelude.{◌≡◌, ◌⊎◌, ℕ, List, [], Option, None, Some, Result, Ok, Err}
use Rattle.deeds.specs.Kept.{FileOfNames}
use Rattle.node.specs.declared.node.Node.{Node}
use Rattle.node_store.specs.Laws.{IsLeft}
use Rattle.node_store.specs.Logs.{Grows}
use Rattle.node_store.specs.Rounds.{BetweenRounds}
use Rattle.node_store.specs.Serving.{LoopEvent}
use Rattle.node_store.specs.declared.end.LogEnd.{LogEnd}
use Rattle.processes.specs.Events.{ProcessEvent}
use Rattle.processes.specs.Interleaved.{HaveEventsAmongOthers, IsLeftBehind}
use Rattle.processes.specs.Kills.{EndsInRound, ReadsInRound}
use Rattle.processes.specs.Loops.{AreOf, HaveEvents, IsBetweenRounds, written_in}
use Rattle.processes.specs.Processes.{Process, Processes}
use Rattle.processes.specs.Programs.{IsHalfRewritten, IsNewAndIdle}
use Rattle.processes.specs.Runs.{AreOfPrograms, AreReached, MayAllHappenTo, processes_run}
use Rattle.processes.specs.StoppedStarts.{IsStoppedWith}
use Rattle.casd.specs.Ending.{RunResult}
use Rattle.casd.specs.Program.{HasRun}
use Rattle.casd.specs.declared.fault.Fault.{Fault}
use Rattle.casd.specs.declared.fault.Fault.TheVariants as faults

-- what the log keeps is what a stop may leave of the process's log
abbrev pub IsLeftOf : Process → (keeps : Option (List ℕ)) → Type 0
IsLeftOf process keeps = (disk : List ℕ) × (keeps ≡ Some disk) × IsLeft process.log process.synced disk

-- the process is stopped; a stop may have left the bytes that are found in its log, and also those that are kept of it,
-- and the one begins with the other
abbrev pub MayBeStarted : Process → (found kept : Option (List ℕ)) → Type 0
MayBeStarted process found kept =
    IsStoppedWith process found × IsStoppedWith process kept × (Grows kept found ⊎ Grows found kept)

-- A start

-- the process behind a start that returned this: it rests between two rounds as the node and the log do, or is stopped
abbrev pub IsAfterStart : Node → (keeps : Option (List ℕ)) → Result LogEnd Fault → Process → Type 0
IsAfterStart node keeps (Ok end) process = IsBetweenRounds process node end.chain.state keeps
IsAfterStart node keeps (Err fault) process = process.running ≡ None

-- What a start did with a new node, whatever it returned, is a list of events of the process, which write nothing. What
-- the log keeps is what a stop may leave.
abbrev pub LeavesStart : (old : Node) → (found kept : Option (List ℕ)) → (new : Node) → (keeps : Option (List ℕ))
    → Result LogEnd Fault → Type 0
LeavesStart old found kept new keeps result = (processes : Processes) (reached : AreReached processes) (number : ℕ) →
    IsNewAndIdle reached.names number old → MayBeStarted (processes.at number) found kept →
    HaveEvents reached.names number processes
    (λ written process. (written ≡ []) × IsLeftOf process keeps × IsAfterStart new keeps result process)

-- A rewriting of the log

-- the process behind a rewriting that returned this: it rests between two rounds, with whichever log there is
abbrev pub IsAfterRewriting : Node → (keeps : Option (List ℕ)) → Result LogEnd Fault → Process → Type 0
IsAfterRewriting node keeps (Ok end) process = IsBetweenRounds process node end.chain.state keeps
IsAfterRewriting node keeps (Err fault) process = (chain : ℕ) × IsBetweenRounds process node chain keeps

-- What was done between two rounds to write the log anew, whatever was returned, is a list of events of the process,
-- which write nothing. What the log keeps is what a stop may leave.
abbrev pub LeavesRewriting : Node → (chain : ℕ) → (kept keeps : Option (List ℕ)) → Result LogEnd Fault → Type 0
LeavesRewriting node chain kept keeps result = (names : FileOfNames) (number : ℕ) (processes : Processes) →
    IsBetweenRounds (processes.at number) node chain kept →
    HaveEvents names number processes
    (λ written process. (written ≡ []) × IsLeftOf process keeps × IsAfterRewriting node keeps result process)

-- A run

-- the end of a session that returned this: the input ended, or the loop stopped early, in a last round; or it is not
-- known which log there is
abbrev pub EndsSession : {T : Type 0} → (last : BetweenRounds Node) → Node → (left keeps holds : Option (List ℕ))
    → Result T Fault → Type 0
EndsSession last new left keeps holds (Ok done) = EndsInRound last new left keeps holds (Ok None)
EndsSession last new left keeps holds (Err (faults.Ended error)) = EndsInRound last new left keeps holds (Err error)
EndsSession last new left keeps holds (Err (faults.NotExchanged error)) =
    (left ≡ last.left) × (holds ≡ last.held) × IsHalfRewritten last.machine last.kept keeps
EndsSession last new left keeps holds (Err _) = ⊥

-- the frames of these events were read in that end
abbrev pub ReadsAtEnd : {T : Type 0} → (had left : Option (List ℕ)) → Result T Fault → List LoopEvent → Type 0
ReadsAtEnd had left (Ok done) events = ReadsInRound had left (Ok None) events
ReadsAtEnd had left (Err (faults.Ended error)) events = ReadsInRound had left (Err error) events
ReadsAtEnd had left (Err fault) events = events ≡ []

-- The process rests as the program does after its start, whose input and output have these bytes. What the program then
-- did is a list of events of the process, among those of others. The output got a front of the bytes that these write,
-- and what the log keeps is what a stop may leave.
pub record LeavesSession {T : Type 0} (names : FileOfNames) (number : ℕ) (from : Processes)
    (input held : Option (List ℕ)) (new : Node) (keeps holds : Option (List ℕ)) (result : Result T Fault) : Type 0 where
  pub first : BetweenRounds Node
  pub left_is : first.left ≡ input
  pub held_is : first.held ≡ held
  pub rests : IsBetweenRounds (from.at number) first.machine first.chain first.kept
  pub left : Option (List ℕ)
  pub served : HaveEventsAmongOthers names number from first (λ last. EndsSession last new left keeps holds result)
      (λ last. ReadsAtEnd last.left left result) (IsLeftBehind held holds keeps)

-- the program wrote nothing to its output, and what the log keeps is what a stop may leave
abbrev pub LeavesNothingMore : Process → (held keeps holds : Option (List ℕ)) → Type 0
LeavesNothingMore process held keeps holds = (holds ≡ held) × IsLeftOf process keeps

-- the program that returned this served after its start; or its start failed, or there was no memory for its input
abbrev pub LeavesAfterStart : {T : Type 0} → FileOfNames → (number : ℕ) → Processes → (input held : Option (List ℕ))
    → Node → (keeps holds : Option (List ℕ)) → Result T Fault → Type 0
LeavesAfterStart names number from input held new keeps holds (Ok done) =
    LeavesSession names number from input held new keeps holds (Ok done)
LeavesAfterStart {T = T} names number from input held new keeps holds (Err (faults.Ended error)) =
    LeavesSession {T = T} names number from input held new keeps holds (Err (faults.Ended error))
LeavesAfterStart {T = T} names number from input held new keeps holds (Err (faults.NotExchanged error)) =
    LeavesSession {T = T} names number from input held new keeps holds (Err (faults.NotExchanged error))
    ⊎ LeavesNothingMore (from.at number) held keeps holds
LeavesAfterStart names number from input held new keeps holds (Err fault) =
    LeavesNothingMore (from.at number) held keeps holds

-- these events may happen to the process of this number, one after another, are such as programs make, and write
-- nothing; and then this holds of all processes
pub record HaveSilentEvents (names : FileOfNames) (number : ℕ) (processes : Processes) (Holds : Processes → Type 0)
    : Type 0 where
  pub events : List ProcessEvent
  pub own : AreOf number events
  pub may : MayAllHappenTo names events processes
  pub programs : AreOfPrograms number events processes
  pub silent : written_in events processes ≡ []
  pub holds : Holds (processes_run events processes)

-- What the program did with a new node, whatever it returned: its start is a list of events of the process, and so is
-- what it served after the start.
abbrev pub LeavesRun : {T : Type 0} → (old : Node) → (found kept input held : Option (List ℕ)) → (new : Node)
    → (keeps holds : Option (List ℕ)) → Result T Fault → Type 0
LeavesRun old found kept input held new keeps holds result = (processes : Processes) (reached : AreReached processes)
    (number : ℕ) (bytes : List ℕ) → input ≡ Some bytes → IsNewAndIdle reached.names number old →
    MayBeStarted (processes.at number) found kept →
    HaveSilentEvents reached.names number processes
    (λ started. LeavesAfterStart reached.names number started input held new keeps holds result)

-- What the clause of `run_words` says of a run (`HasRun`) is a list of events of the process. Its start writes nothing.
-- What it served after the start is among the events of other processes: the output got a front of the bytes that these
-- events write, and what the log keeps is what a stop may leave.
abbrev pub RunsAreEvents : Type 0
RunsAreEvents = (processes : Processes) (reached : AreReached processes) (number : ℕ) (bytes : List ℕ)
    (found kept held : Option (List ℕ)) (node : Node) (keeps holds : Option (List ℕ)) (result : RunResult) →
    MayBeStarted (processes.at number) found kept →
    HasRun reached.names number found kept (Some bytes) held node keeps holds result →
    HaveSilentEvents reached.names number processes
    (λ started. LeavesAfterStart reached.names number started (Some bytes) held node keeps holds result)
