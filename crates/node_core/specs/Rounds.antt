-- The contracts that docs/trusted.md lists do not depend on this file; other contracts and proofs do.
-- What a core does with frames, and in which order its program carries out the steps.
use Rattle.std.specs.Prelude.{◌≡◌, ◌==◌, ◌+◌, ◌-◌, ◌^◌, [], ◌∷◌, ℕ, true, List, length, min, None, Some}
use Rattle.std.specs.Prelude.{if◌then◌else◌}
use Rattle.node.specs.Failures.{Fails}
use Rattle.node.specs.Handles.{Handles as HandlesFrame}
use Rattle.node.specs.Recovering.{Notes as NotesLength}
use Rattle.node_store.specs.Gathering.{HandlesInput}
use Rattle.node_store.specs.Serving.{IsReadStop, StopsAtFrame, StopsBehind}
use Rattle.node_store.specs.Steps.{steps_of, Step as Deed}
use Rattle.node_store.specs.declared.batch.Batch.{Batch}
use Rattle.node_store.specs.declared.end.LogEnd.{LogEnd}
use Rattle.node_store.specs.declared.gathering.Round.{Round}
use Rattle.node_core.specs.declared.embedded.NodeCore.{NodeCore}
use Rattle.node_core.specs.declared.error.CoreError.{CoreError}
use Rattle.node_core.specs.declared.error.CoreError.TheVariants as errors
use Rattle.node_core.specs.declared.steps.Step.{Step}
use Rattle.node_core.specs.declared.steps.Step.TheVariants as steps

-- a log ends there behind the bytes of this batch; a length of more than 2^64 - 1 counts as that
pub record IsBehind (old : LogEnd) (batch : Batch) (new : LogEnd) : Type 0 where
  pub long : new.length ≡ min (old.length + length batch.log) (2 ^ 64 - 1)
  pub chained : new.chain.state ≡ batch.chain.state

-- the core handled the frames with which the input begins, one after another, and the bytes behind them are the rest;
-- what is to be done for them waits in the batch, and there is no way back to a former log
pub record HasHandled (old new : NodeCore) (input : List ℕ) (round : Round) : Type 0 where
  pub handles : HandlesInput HandlesFrame NotesLength old.end.chain.state old.node new.node input round
  pub behind : IsBehind old.end round.batch new.end
  pub former : new.former ≡ None
  pub going : new.is_stopped ≡ old.is_stopped

-- why a core handles no frames: it has stopped before; or it stops behind some frames of the input, for this reason,
-- which is none of the log or the output
abbrev pub HasFailed : NodeCore → (input : List ℕ) → CoreError → Type 0
HasFailed old input errors.Stopped = old.is_stopped ≡ true
HasFailed old input (errors.Ended error) =
    StopsBehind HandlesFrame NotesLength old.node (Some input) error
    × StopsAtFrame HandlesFrame NotesLength Fails old.node (Some input) error × IsReadStop error
HasFailed old input _ = ⊥

-- what is to be done for a batch, in this order: nothing with the log if it gets no entry
abbrev pub steps_for : Batch → List Deed
steps_for batch =
    if length batch.log == 0 then Deed.Sends batch.early ∷ [] else steps_of batch

-- a step as the program gets it
abbrev pub the_step : Step → Deed
the_step (steps.Send bytes) = Deed.Sends bytes.now
the_step (steps.Append bytes) = Deed.Appends bytes.now
the_step steps.Sync = Deed.Syncs
