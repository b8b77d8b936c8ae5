-- The contracts that docs/trusted.md lists do not depend on this file; other contracts and proofs do.
-- What sections do to the messages of an object.
use Rattle.std.specs.Prelude.{◌≡◌, ◌⊎◌, ℕ, ◌%◌, ◌==◌, Bool, true, false}
use Rattle.std.specs.Prelude.{if◌then◌else◌, List, [], length, Option, Some, None, slice_get}
use Rattle.tag.specs.Cause.{IsRefusalBy}
use Rattle.tag.specs.declared.refusal.Refusal.{Refusal}
use Rattle.mail.specs.declared.message.Message.{Message}
use Rattle.record.specs.Records.{Object}
use Rattle.record.specs.Steps.{Step}
use Rattle.register.specs.Causes.{lose_cause, repeat_cause}
use Rattle.register.specs.State.{State}
use Rattle.cluster.specs.Cluster.{Cluster, named}
use Rattle.cluster.specs.Causes.{next, object_cause, can_handle}
use Rattle.cluster.specs.Steps.{with_step}
use Rattle.driver.specs.Choices.{places_passing, Picks, handling, handling_cause}

-- whether a message can be handled: it is a reply, or a request to a server that is up
abbrev pub any_choice : Cluster → Object → Message → Bool
any_choice cluster object message = can_handle cluster object message message.body

-- the places of the messages of an object that can be handled, in mail order
abbrev pub any_choices : Cluster → Object → List ℕ
any_choices cluster object = places_passing (any_choice cluster object) 0 object.mail

module _ {C : Type 0} (chooses : C → ℕ → ℕ → C → Type 0) (name : List ℕ) (old : Cluster) (before : C) where
  -- this place is chosen, and this message waits there
  pub record IsStirred (after : C) (place : ℕ) (message : Message) : Type 0 where
    pub state : State
    pub there : named old.objects name ≡ Some state
    pub picks : Picks chooses (any_choices old state.object) before after place
    pub waits : slice_get state.object.mail place ≡ Some message

  -- the chosen message is served or taken; or no message can be handled, and nothing changes
  abbrev pub Stirs : Bool → (new : Cluster) → (after : C) → Type 0
  Stirs true new after =
      (place : ℕ) × (message : Message) × IsStirred after place message
      × (new ≡ with_step old name (handling place message.body))
  Stirs false new after =
      (state : State) × (named old.objects name ≡ Some state) × (any_choices old state.object ≡ []) × (new ≡ old)
      × (after ≡ before)

  -- why no message is served or taken: no object has this name, or the chosen message is refused
  abbrev pub StirsNot : (after : C) → Refusal → Type 0
  StirsNot after r =
      ((object_cause old name (λ object. None) ≡ Some r) × (after ≡ before))
      ⊎ ((place : ℕ) × (message : Message) × IsStirred after place message
      × IsRefusalBy (object_cause old name (handling_cause old place)) r)

-- the step that the second number selects: an even number loses the message at a place, an odd one repeats it
abbrev pub disturbing : (place answer : ℕ) → Step
disturbing place answer = if (answer % 2) == 0 then Step.Lose place else Step.Repeat place

-- why the message at a place is not lost, or not repeated, as the second number selects
abbrev pub disturb_cause : Cluster → (place answer : ℕ) → Object → Option Refusal
disturb_cause cluster place answer object =
    if (answer % 2) == 0 then lose_cause (next cluster) object place else repeat_cause (next cluster) object place

module _ {C : Type 0} (chooses : C → ℕ → ℕ → C → Type 0) (name : List ℕ) (old : Cluster) (before : C) where
  -- this place is chosen, and then this number, which selects whether the message is lost or repeated
  pub record IsDisturbed (after : C) (place answer : ℕ) : Type 0 where
    pub state : State
    pub there : named old.objects name ≡ Some state
    pub first : ℕ
    pub middle : C
    pub chosen : chooses before (length state.object.mail) first middle
    pub at : place ≡ first % length state.object.mail
    pub deed : chooses middle 2 answer after

  -- the chosen message is lost or repeated; or no message waits, and nothing changes
  abbrev pub Disturbs : Bool → (new : Cluster) → (after : C) → Type 0
  Disturbs true new after =
      (place : ℕ) × (answer : ℕ) × IsDisturbed after place answer × (new ≡ with_step old name (disturbing place answer))
  Disturbs false new after =
      (state : State) × (named old.objects name ≡ Some state) × (state.object.mail ≡ []) × (new ≡ old)
      × (after ≡ before)

  -- why no message is lost or repeated: no object has this name, or the chosen step is refused
  abbrev pub DisturbsNot : (after : C) → Refusal → Type 0
  DisturbsNot after r =
      ((object_cause old name (λ object. None) ≡ Some r) × (after ≡ before))
      ⊎ ((place : ℕ) × (answer : ℕ) × IsDisturbed after place answer
      × IsRefusalBy (object_cause old name (disturb_cause old place answer)) r)
