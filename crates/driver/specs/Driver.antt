-- The contracts that docs/trusted.md lists do not depend on this file; other contracts and proofs do.
-- The driver of one call: which step comes next, why it is refused, and what a list of steps leads to.
use Rattle.std.specs.Prelude.{◌≡◌, ◌≢◌, ℕ, zero, suc, pred, ◌<◌, ◌==◌, ◌&&◌, Bool, true, false, if◌then◌else◌, List, []}
use Rattle.std.specs.Prelude.{Option, Some, None, slice_get}
use Rattle.tag.specs.declared.refusal.Refusal.{Refusal}
use Rattle.tag.specs.declared.refusal.Refusal.TheVariants.{NoMemory, NoObject, NoCall, NotNow, Full}
use Rattle.tag.specs.declared.refusal.Refusal.TheVariants.{Stuck, GaveUp, Collected}
use Rattle.mail.specs.declared.message.Message.{Message}
use Rattle.record.specs.Records.{Call, Object}
use Rattle.record.specs.Steps.{Step}
use Rattle.record.specs.Wants.{current_phase}
use Rattle.record.specs.declared.stage.Want.{Want}
use Rattle.record.specs.declared.stage.Want.TheVariants as want
use Rattle.register.specs.Causes.{call_at, number_cause, advance_cause, supplying_cause, post_cause, answer_cause}
use Rattle.register.specs.Causes.{again_cause, is_plain}
use Rattle.register.specs.State.{State}
use Rattle.register.specs.View.{want_at, receipt_at}
use Rattle.call.specs.declared.receipt.Receipt.{Receipt}
use Rattle.cluster.specs.Cluster.{Cluster, named, if_named, place_of}
use Rattle.cluster.specs.Causes.{next, object_cause}
use Rattle.cluster.specs.Preconditions.{MayMake}
use Rattle.cluster.specs.Steps.{with_step}
use Rattle.driver.specs.Choices.{Picks, choices, handling, handling_cause}
use Rattle.driver.specs.Coding.{settling_cause, Settles}

-- what a call wants; none if there is no such call
abbrev pub wanted : Cluster → (name : List ℕ) → (call : ℕ) → Option Want
wanted cluster name call = if_named cluster name (λ object. want_at object call)

-- there is such a call, and it is not answered
abbrev pub IsNotAnswered : Cluster → (name : List ℕ) → (call : ℕ) → Type 0
IsNotAnswered cluster name call = (w : Want) × (wanted cluster name call ≡ Some w) × (w ≢ want.Done)

-- the step by which the current phase of a call resends: a supply if its requests have pieces, a post if they have none
abbrev pub asking : (number : ℕ) → Call → Step
asking number call = if is_plain (current_phase call.phases) then Step.Post (pred number) else Step.Supply (pred number)

-- the step by which the call of this number resends
abbrev pub IsAsking : Object → (number : ℕ) → Step → Type 0
IsAsking object number step = (call : Call) × (call_at object number ≡ Some call) × (step ≡ asking number call)

-- why the next step of a call is refused
abbrev pub next_step_cause : Cluster → (number : ℕ) → Step → Object → Option Refusal
next_step_cause cluster number (Step.Advance index) object = advance_cause (next cluster) object number
next_step_cause cluster number (Step.Again index) object = again_cause (next cluster) object number
next_step_cause cluster number (Step.Post index) object = post_cause (next cluster) object number
next_step_cause cluster number (Step.Supply index) object = supplying_cause (next cluster) object number
next_step_cause cluster number (Step.Settle index value) object = settling_cause (next cluster) object number
next_step_cause cluster number (Step.AnswerCall index) object = answer_cause (next cluster) object number
next_step_cause cluster number (Step.Serve place) object = handling_cause cluster place object
next_step_cause cluster number (Step.Take place) object = handling_cause cluster place object
next_step_cause cluster number _ object = None

-- why the next step of a call of the object of this name is refused
abbrev pub turn_cause : Cluster → (name : List ℕ) → (call : ℕ) → Step → Option Refusal
turn_cause cluster name call step = object_cause cluster name (next_step_cause cluster call step)

-- whether the turn after `count` others asks again, so that it may resend or restart: only the first of a resume does
abbrev pub asks_again : (resumed : Bool) → (count : ℕ) → Bool
asks_again resumed count = resumed && count == 0

module _ {C : Type 0} (chooses : C → ℕ → ℕ → C → Type 0) (name : List ℕ) (call : ℕ) where
  -- the turn of a call that wants replies: with `again` it resends, otherwise the chosen one of its messages is handled
  abbrev pub IsWaitingStep : Cluster → Object → (again : Bool) → (before after : C) → Step → Type 0
  IsWaitingStep cluster object true before after step = (after ≡ before) × IsAsking object call step
  IsWaitingStep cluster object false before after step =
      (place : ℕ) × (message : Message) × Picks chooses (choices cluster call object) before after place
      × (slice_get object.mail place ≡ Some message) × (step ≡ handling place message.body)

  -- the next step of a call that wants this; a call that wants to be restarted is restarted only if `again` is true
  abbrev pub IsNext : Cluster → Object → (again : Bool) → (before after : C) → Step → Want → Type 0
  IsNext cluster object again before after step want.Replies = IsWaitingStep cluster object again before after step
  IsNext cluster object again before after step want.Advance = (after ≡ before) × (step ≡ Step.Advance (pred call))
  IsNext cluster object again before after step (want.Supply k n) = (after ≡ before) × (step ≡ Step.Supply (pred call))
  IsNext cluster object again before after step (want.Settle k len) =
      (after ≡ before) × Settles object call step (want.Settle k len)
  IsNext cluster object again before after step want.Again =
      (again ≡ true) × (after ≡ before) × (step ≡ Step.Again (pred call))
  IsNext cluster object again before after step want.Answer = (after ≡ before) × (step ≡ Step.AnswerCall (pred call))
  IsNext cluster object again before after step want.Done = ⊥

  -- the next step of the call, and how it leaves the chooser
  pub record IsDue (cluster : Cluster) (again : Bool) (before after : C) (step : Step) : Type 0 where
    pub state : State
    pub there : named cluster.objects name ≡ Some state
    pub want : Want
    pub wants : want_at state.object call ≡ Some want
    pub next : IsNext cluster state.object again before after step want

  -- a turn: the next step is made, nothing refuses it, and the record says that it may be made
  pub record IsTurn (again : Bool) (old : Cluster) (before : C) (new : Cluster) (after : C) : Type 0 where
    pub step : Step
    pub due : IsDue old again before after step
    pub room : turn_cause old name call step ≡ None
    pub may : MayMake old name step
    pub made : new ≡ with_step old name step

  -- the turn that answers the call, with this receipt
  pub record IsAnswerTurn (again : Bool) (old : Cluster) (before : C) (new : Cluster) (after : C) (receipt : Receipt)
      : Type 0 where
    pub wants : wanted old name call ≡ Some want.Answer
    pub turn : IsTurn again old before new after
    pub handed : if_named old name
        (λ object. receipt_at object (place_of old.objects name) call (next old)) ≡ Some receipt

  -- the call wants replies, the turn may not resend, and none of the call's messages can be handled
  pub record IsStuck (cluster : Cluster) (again : Bool) : Type 0 where
    pub no_asking : again ≡ false
    pub wants : wanted cluster name call ≡ Some want.Replies
    pub none : if_named cluster name (λ object. Some (choices cluster call object)) ≡ Some []

  -- why a turn is refused; a turn has no other refusals
  abbrev pub IsRefused : Cluster → (again : Bool) → (before after : C) → Refusal → Type 0
  IsRefused cluster again before after NoObject =
      (after ≡ before) × (object_cause cluster name (λ object. number_cause object call) ≡ Some NoObject)
  IsRefused cluster again before after NoCall =
      (after ≡ before) × (object_cause cluster name (λ object. number_cause object call) ≡ Some NoCall)
  IsRefused cluster again before after NotNow = (after ≡ before) × (wanted cluster name call ≡ Some want.Done)
  IsRefused cluster again before after Stuck = (after ≡ before) × IsStuck cluster again
  IsRefused cluster again before after Collected =
      (after ≡ before) × (again ≡ false) × (wanted cluster name call ≡ Some want.Again)
  IsRefused cluster again before after Full =
      (step : Step) × IsDue cluster again before after step × (turn_cause cluster name call step ≡ Some Full)
  IsRefused cluster again before after NoMemory =
      (step : Step) × IsDue cluster again before after step × (turn_cause cluster name call step ≡ None)
  IsRefused cluster again before after _ = ⊥

  -- this many turns lead from the one cluster to the other
  abbrev pub Drives : (resumed : Bool) → (count : ℕ) → (old : Cluster) → (before : C) → (new : Cluster) → (after : C)
      → Type 0
  Drives resumed zero old before new after = (new ≡ old) × (after ≡ before)
  Drives resumed (suc count) old before new after =
      (middle : Cluster) × (held : C) × Drives resumed count old before middle held
      × IsTurn (asks_again resumed count) middle held new after

  -- fewer than `turns` turns are made, and then the one that answers the call with this receipt
  pub record FinishesCall (resumed : Bool) (turns : ℕ) (old : Cluster) (before : C) (new : Cluster) (after : C)
      (receipt : Receipt) : Type 0 where
    pub count : ℕ
    pub within : count < turns
    pub middle : Cluster
    pub held : C
    pub drives : Drives resumed count old before middle held
    pub answers : IsAnswerTurn (asks_again resumed count) middle held new after receipt

  -- fewer than `turns` turns are made, and then one is refused
  pub record IsStopped (resumed : Bool) (turns : ℕ) (old : Cluster) (before : C) (new : Cluster) (after : C)
      (refusal : Refusal) : Type 0 where
    pub count : ℕ
    pub within : count < turns
    pub held : C
    pub drives : Drives resumed count old before new held
    pub refused : IsRefused new (asks_again resumed count) held after refusal

  -- nothing has changed
  abbrev pub IsUntouched : (old : Cluster) → (before : C) → (new : Cluster) → (after : C) → Type 0
  IsUntouched old before new after = (new ≡ old) × (after ≡ before)

  -- why `finish` is refused; it has no other refusals
  abbrev pub IsUnfinished : (resumed : Bool) → (turns : ℕ) → (old : Cluster) → (before : C) → (new : Cluster)
      → (after : C) → Refusal → Type 0
  IsUnfinished resumed turns old before new after NoObject =
      IsUntouched old before new after × (object_cause old name (λ object. number_cause object call) ≡ Some NoObject)
  IsUnfinished resumed turns old before new after NoCall =
      IsUntouched old before new after × (object_cause old name (λ object. number_cause object call) ≡ Some NoCall)
  IsUnfinished resumed turns old before new after NotNow =
      IsUntouched old before new after × (wanted old name call ≡ Some want.Done)
  IsUnfinished resumed turns old before new after GaveUp =
      Drives resumed turns old before new after × IsNotAnswered new name call
  IsUnfinished resumed turns old before new after Stuck = IsStopped resumed turns old before new after Stuck
  IsUnfinished resumed turns old before new after Collected =
      IsStopped resumed turns old before new after Collected
  IsUnfinished resumed turns old before new after Full = IsStopped resumed turns old before new after Full
  IsUnfinished resumed turns old before new after NoMemory = IsStopped resumed turns old before new after NoMemory
  IsUnfinished resumed turns old before new after _ = ⊥
