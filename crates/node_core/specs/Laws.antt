-- The contracts that docs/trusted.md lists do not depend on this file; other contracts and proofs do.
-- What the steps of a core come to, carried out by its program.
use Rattle.std.specs.Prelude.{◌≡◌, ◌⊎◌, ℕ, true, List, Option, Some}
use Rattle.deeds.specs.Kept.{FileOfNames}
use Rattle.node.specs.Handles.{Handles as HandlesFrame}
use Rattle.node.specs.Recovering.{Notes as NotesLength}
use Rattle.node.specs.declared.node.Node.{Node}
use Rattle.node_store.specs.Rounds.{BetweenRounds, IsRound}
use Rattle.node_store.specs.Serving.{StopsBehind, StopsEarly, StopsServing}
use Rattle.node_store.specs.Steps.{AreCarriedOut, Places, StopWithin}
use Rattle.node_store.specs.declared.gathering.Round.{Round}
use Rattle.node_store.specs.declared.stop.ServeError.{ServeError}
use Rattle.processes.specs.Programs.{IsHalfRewritten, IsStart, IsStoppedStart}
use Rattle.processes.specs.Sessions.{IsRenewal}
use Rattle.node_core.specs.Opening.{HasOpened}
use Rattle.node_core.specs.Rewriting.{HasKept, IsLogAnew}
use Rattle.node_core.specs.Rounds.{HasHandled, steps_for}
use Rattle.node_core.specs.Starts.{IsStartCutOff, IsStartDone}
use Rattle.node_core.specs.declared.embedded.NodeCore.{NodeCore}
use Rattle.node_core.specs.declared.opening.Opened.{Opened}

-- a program between two rounds: its core, which counts how long the log is, the bytes that are left of its input, and
-- what its log and network have
abbrev pub between : NodeCore → (left : Option (List ℕ)) → Places → BetweenRounds Node
between core left places = record {
  length = core.end.length;
  chain = core.end.chain.state;
  machine = core.node;
  left = left;
  kept = Some places.kept;
  held = Some places.sent;
}

-- Starts

-- If a core was opened with the bytes that were written in a log, and the log was cut and got the entries of the start,
-- that is a start of a process. The log is then synced, and nothing was sent.
abbrev pub OpenedCoresHaveStarted : Type 0
OpenedCoresHaveStarted = (names : FileOfNames) (number : ℕ) (opened : Opened) (before after : Places) →
    HasOpened names number before.written opened → IsStartDone opened.length opened.entries before after →
    IsStart names number before.written opened.core.node opened.core.end.chain.state (Some after.kept)
    × (after.kept ≡ after.written) × (after.sent ≡ before.sent)

-- if that is cut off anywhere, it is a start that fails, and nothing was sent
abbrev pub CutOffStartsAreStopped : Type 0
CutOffStartsAreStopped = (names : FileOfNames) (number : ℕ) (opened : Opened) (before after : Places) →
    HasOpened names number before.written opened → IsStartCutOff opened.length opened.entries before after →
    IsStoppedStart names number before.written (Some before.kept) (Some after.kept) × (after.sent ≡ before.sent)

-- Rounds

-- if a core handled frames, and the steps for them were carried out where the log is synced, that is a round of the
-- loop of a process; the log is then synced again
abbrev pub RoundsAreServed : Type 0
RoundsAreServed = (old new : NodeCore) (input : List ℕ) (round : Round) (before after : Places) →
    HasHandled old new input round → before.kept ≡ before.written →
    AreCarriedOut before (steps_for round.batch) after →
    IsRound HandlesFrame NotesLength (between old (Some input) before) (between new (Some round.rest.now) after)
    × (after.kept ≡ after.written)

-- if the steps are cut off anywhere, that is a round of the loop that stops early, for a reason that says nothing about
-- the input
abbrev pub CutOffRoundsStopEarly : Type 0
CutOffRoundsStopEarly = (old new : NodeCore) (input : List ℕ) (round : Round) (before after : Places)
    (error : ServeError) → ((bytes : List ℕ) → StopsServing error bytes) →
    HasHandled old new input round → before.kept ≡ before.written →
    StopWithin before (steps_for round.batch) after →
    StopsEarly HandlesFrame NotesLength old.end.chain.state old.node (Some input) (Some before.kept) (Some after.kept)
    (Some before.sent) (Some after.sent) error

-- so is a call that fails, for which nothing is done
abbrev pub FailedRoundsStopEarly : Type 0
FailedRoundsStopEarly = (old : NodeCore) (input : List ℕ) (places : Places) (error : ServeError) →
    StopsBehind HandlesFrame NotesLength old.node (Some input) error →
    StopsEarly HandlesFrame NotesLength old.end.chain.state old.node (Some input) (Some places.kept) (Some places.kept)
    (Some places.sent) (Some places.sent) error

-- Rewritings

-- the log of the program is put in the place of the old one for good: it has these bytes, and they are kept
pub record IsExchanged (old : Places) (bytes : List ℕ) (new : Places) : Type 0 where
  pub written : new.written ≡ bytes
  pub kept : new.kept ≡ bytes
  pub sent : new.sent ≡ old.sent

-- Between two rounds a log was written anew. If it was put in the place of the old one, that is a renewal. If it was
-- not, and the core goes on with the old one, nothing has changed. If it is not known, the log keeps one of the two.
abbrev pub ExchangedLogsAreRenewals : Type 0
ExchangedLogsAreRenewals = (old new : NodeCore) (bytes : List ℕ) (left : Option (List ℕ)) (before : Places) →
    IsLogAnew old new bytes →
    ((after : Places) → IsExchanged before bytes after → IsRenewal (between old left before) (between new left after))
    × ((again : NodeCore) → HasKept new again true → between again left before ≡ between old left before)
    × ((kept : List ℕ) → (kept ≡ before.kept) ⊎ (kept ≡ bytes) →
    IsHalfRewritten old.node (Some before.kept) (Some kept))
