-- The contracts that docs/trusted.md lists do not depend on this file; other contracts and proofs do.
-- What is to be done for a batch, step by step, and what comes of it, also where it is cut off.
use Rattle.std.specs.Prelude.{◌≡◌, ◌⊎◌, ◌++◌, [], ◌∷◌, ℕ, List, Some}
use Rattle.std.specs.List.{FoldsTo}
use Rattle.node_effects.specs.declared.output.Output.{Output}
use Rattle.node_store.specs.Outputs.{HasGathered, WritesAll, WritesFirst}
use Rattle.node_store.specs.declared.batch.Batch.{Batch}

-- one step: bytes are sent, or appended to the log, or the log is synced
pub data Step : Type 0 where
  Sends : (bytes : List ℕ) → Step
  Appends : (bytes : List ℕ) → Step
  Syncs : Step

-- what is to be done for a batch, in this order
abbrev pub steps_of : Batch → List Step
steps_of batch = Step.Sends batch.early ∷ Step.Appends batch.log ∷ Step.Syncs ∷ Step.Sends batch.output ∷ []

-- what the steps change: the bytes of the log, those that are there after the machine stops, and those that were sent
pub record Places : Type 0 where
  pub written : List ℕ
  pub kept : List ℕ
  pub sent : List ℕ

-- these bytes begin with those
abbrev pub IsFront : List ℕ → List ℕ → Type 0
IsFront front bytes = (back : List ℕ) × (bytes ≡ front ++ back)

-- the log keeps what it kept, perhaps with more of what was written
abbrev pub MayKeepMore : (old new : Places) → Type 0
MayKeepMore old new = IsFront old.kept new.kept × IsFront new.kept new.written

-- the step was carried out
abbrev pub IsCarriedOut : Places → Step → Places → Type 0
IsCarriedOut old (Step.Sends bytes) new =
    (new.sent ≡ old.sent ++ bytes) × (new.written ≡ old.written) × MayKeepMore old new
IsCarriedOut old (Step.Appends bytes) new =
    (new.sent ≡ old.sent) × (new.written ≡ old.written ++ bytes) × MayKeepMore old new
IsCarriedOut old Step.Syncs new =
    (new.sent ≡ old.sent) × (new.written ≡ old.written) × (new.kept ≡ new.written)

-- the step was cut off: a front of its bytes was sent or appended, and a sync has done nothing that one may count on
abbrev pub IsCutOff : Places → Step → Places → Type 0
IsCutOff old (Step.Sends bytes) new =
    (front : List ℕ) × IsFront front bytes × IsCarriedOut old (Step.Sends front) new
IsCutOff old (Step.Appends bytes) new =
    (front : List ℕ) × IsFront front bytes × IsCarriedOut old (Step.Appends front) new
IsCutOff old Step.Syncs new = IsCarriedOut old (Step.Appends []) new

-- the steps were carried out one after another
abbrev pub AreCarriedOut : Places → List Step → Places → Type 0
AreCarriedOut old steps new = FoldsTo IsCarriedOut old steps new

-- the first steps were carried out one after another, and the next one was cut off
abbrev pub StopWithin : Places → List Step → Places → Type 0
StopWithin old [] new = ⊥
StopWithin old (step ∷ steps) new =
    IsCutOff old step new ⊎ ((next : Places) × IsCarriedOut old step next × StopWithin next steps new)

-- If the steps for a batch are carried out one after another, where the log is synced, all outputs that wait in the
-- batch are written. The log is then synced again.
abbrev pub StepsWriteAll : Type 0
StepsWriteAll = (chain : ℕ) (batch : Batch) (outputs : List Output) (before after : Places)
    → HasGathered chain batch outputs → before.kept ≡ before.written → AreCarriedOut before (steps_of batch) after
    → WritesAll chain (Some before.kept) (Some after.kept) (Some before.sent) (Some after.sent) outputs
    × (after.kept ≡ after.written)

-- if they are cut off anywhere, only the first outputs are written, and a frame only if the log keeps all entries
-- before it
abbrev pub CutOffStepsWriteFirst : Type 0
CutOffStepsWriteFirst = (chain : ℕ) (batch : Batch) (outputs : List Output) (before after : Places)
    → HasGathered chain batch outputs → before.kept ≡ before.written → StopWithin before (steps_of batch) after
    → WritesFirst chain (Some before.kept) (Some after.kept) (Some before.sent) (Some after.sent) outputs
