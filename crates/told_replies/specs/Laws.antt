-- The contracts that docs/trusted.md lists do not depend on this file; other contracts and proofs do.
-- The laws about what replies told.
use Rattle.std.specs.Prelude.{◌≡◌, ℕ, List, Some}
use Rattle.std.specs.List.{AllByRecursion}
use Rattle.tag.specs.declared.tag.Tag.{Tag}
use Rattle.record.specs.declared.call.CallKind.TheVariants.{Read}
use Rattle.record.specs.Fragments.{Code, IsCode}
use Rattle.record.specs.Records.{Object}
use Rattle.soundness.specs.Sound.{IsSound}
use Rattle.atomicity.specs.Atomic.{IsAtomic}
use Rattle.open_calls.specs.OpenCalls.{NodeCall}
use Rattle.network.specs.Worlds.{World}
use Rattle.network.specs.Events.{IsOpen}
use Rattle.network.specs.Following.{Follows, IsOpenIn, last_step_after}
use Rattle.network.specs.Laws.{IsReached, IsValueOf}
use Rattle.early_ends.specs.Held.{IsHeld}
use Rattle.early_ends.specs.Told.{IsTold, Told}
use Rattle.told_replies.specs.Tellings.{Run}
use Rattle.told_replies.specs.EarlyAnswers.{EarlyAnswer, IsEarly, IsToldHeld, early_history}

-- the run that reached a world
abbrev pub run_to : (fragment : Code) (world : World) → IsReached fragment world → Run
run_to fragment world reached = record { files = reached.files; events = reached.events }

-- in the record, the tag is held at the position of the call's current phase, since the phase began
pub record IsHeldIn (object : Object) (world : World) (call : NodeCall) (tag : Tag) : Type 0 where
  pub carried : IsOpenIn object call
  pub held : IsHeld object call.phase.position tag carried.last.start (last_step_after world.now)

-- a sound record that the world follows, in which each tag is held that replies told an open call to be held
pub record HoldsWhatWasTold (fragment : Code) (run : Run) (world : World) : Type 0 where
  pub object : Object
  pub sound : IsSound fragment object (last_step_after world.now)
  pub follows : Follows world object
  pub holds : (id : ℕ) (call : NodeCall) (tag : Tag) → IsOpen world id call → IsToldHeld fragment run call tag →
      IsHeldIn object world call tag

-- a world that is reached follows a record in which each tag is held that replies told an open call to be held
abbrev pub ToldTagsAreHeld : Type 0
ToldTagsAreHeld = (fragment : Code) (world : World) → IsCode fragment → (reached : IsReached fragment world) →
    HoldsWhatWasTold fragment (run_to fragment world reached) world

-- the record has the early answer as one that may be told, to the call with its id, at the step of its event
pub record MayBeTold (fragment : Code) (object : Object) (answer : EarlyAnswer) : Type 0 where
  pub told : Told
  pub may : IsTold fragment object told
  pub same_call : may.call.id ≡ answer.id
  pub step : told.step ≡ last_step_after answer.now
  pub value : told.value ≡ answer.value

-- a sound record that the world follows, in which each early answer of the run may be told
pub record AllowsEarlyAnswers (fragment : Code) (run : Run) (world : World) : Type 0 where
  pub object : Object
  pub sound : IsSound fragment object (last_step_after world.now)
  pub follows : Follows world object
  pub allows : (answer : EarlyAnswer) → IsEarly fragment run answer → MayBeTold fragment object answer

-- a world that is reached follows a record in which each early answer of the run may be told
abbrev pub EarlyAnswersMayBeTold : Type 0
EarlyAnswersMayBeTold = (fragment : Code) (world : World) → IsCode fragment → (reached : IsReached fragment world) →
    AllowsEarlyAnswers fragment (run_to fragment world reached) world

-- whatever early answers there were in the run that reached a world, the history with these answers is atomic
abbrev pub EarlyAnswersAreAtomic : Type 0
EarlyAnswersAreAtomic = (fragment : Code) (world : World) → IsCode fragment → (reached : IsReached fragment world) →
    (answers : List EarlyAnswer) → AllByRecursion (IsEarly fragment (run_to fragment world reached)) answers →
    IsAtomic (early_history answers world.history)

-- each early answer to a read, in the run that reached a world, returned the value of a tag
abbrev pub EarlyReadsReturnValues : Type 0
EarlyReadsReturnValues = (fragment : Code) (world : World) → IsCode fragment → (reached : IsReached fragment world) →
    (answer : EarlyAnswer) (early : IsEarly fragment (run_to fragment world reached) answer) → early.call.kind ≡ Read →
    (tag : Tag) × (value : List ℕ) × (answer.value ≡ Some value) × IsValueOf world tag value
