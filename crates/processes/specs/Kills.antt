-- The contracts that docs/trusted.md lists do not depend on this file; other contracts and proofs do.
-- What the loop of a node program leaves, however it ends.
use Rattle.std.specs.Prelude.{◌≡◌, ℕ, false, List, [], Option, None, Some, Result, Ok, Err}
use Rattle.deeds.specs.Kept.{FileOfNames}
use Rattle.node.specs.Handles.{Handles as HandlesFrame}
use Rattle.node.specs.Recovering.{Notes as NotesLength}
use Rattle.node.specs.declared.node.Node.{Node}
use Rattle.node_log.specs.Reading.{HadLeft}
use Rattle.node_store.specs.Rounds.{BetweenRounds}
use Rattle.node_store.specs.Serving.{BeginsWithFrames, LoopEvent, ReadsFrames, ServesSome, StopsEarly, StopsServing}
use Rattle.node_store.specs.declared.end.LogEnd.{LogEnd}
use Rattle.node_store.specs.declared.stop.ServeError.{ServeError}
use Rattle.processes.specs.Interleaved.{HaveEventsAmongOthers, IsLeftBehind}
use Rattle.processes.specs.Loops.{IsBetweenRounds}
use Rattle.processes.specs.Processes.{Processes}

-- the last round, if the loop returned this: its input ended, or it stopped early; or no round was left to do
abbrev pub EndsInRound : BetweenRounds Node → Node → (left keeps holds : Option (List ℕ))
    → Result (Option LogEnd) ServeError → Type 0
EndsInRound last new left keeps holds (Ok None) = (then : ℕ) × ServesSome HandlesFrame NotesLength last.chain then
    last.machine new last.left left last.kept keeps last.held holds (Ok false)
EndsInRound last new left keeps holds (Ok (Some end)) =
    last ≡ record {
      length = end.length;
      chain = end.chain.state;
      machine = new;
      left = left;
      kept = keeps;
      held = holds;
    }
EndsInRound last new left keeps holds (Err error) =
    StopsEarly HandlesFrame NotesLength last.chain last.machine last.left last.kept keeps last.held holds error

-- the frames of these events were read in that round
abbrev pub ReadsInRound : (had left : Option (List ℕ)) → Result (Option LogEnd) ServeError → List LoopEvent → Type 0
ReadsInRound had left (Ok None) events = ReadsFrames had left events false
ReadsInRound had left (Ok (Some end)) events = events ≡ []
ReadsInRound had left (Err error) events = HadLeft (BeginsWithFrames events (StopsServing error)) had

-- What the loop did from this moment on, whatever it returned, is a list of events of the process, among those of
-- others. The output got a front of the bytes that these write, and what the log keeps is what a stop may leave.
abbrev pub LeavesEvents : (first : BetweenRounds Node) → Node → (left keeps holds : Option (List ℕ))
    → Result (Option LogEnd) ServeError → Type 0
LeavesEvents first new left keeps holds result = (names : FileOfNames) (number : ℕ) (processes : Processes)
    (input : List ℕ) → first.left ≡ Some input →
    IsBetweenRounds (processes.at number) first.machine first.chain first.kept →
    HaveEventsAmongOthers names number processes first (λ last. EndsInRound last new left keeps holds result)
    (λ last. ReadsInRound last.left left result) (IsLeftBehind first.held holds keeps)
