-- The contracts that docs/trusted.md lists do not depend on this file; other contracts and proofs do.
-- What the command `deliver` does to the messages of an object.
use Rattle.std.specs.Prelude.{◌≡◌, ◌⊎◌, ℕ, zero, suc, ◌<◌, Bool, true, false, List, Option, Some, None}
use Rattle.tag.specs.Cause.{IsRefusalBy}
use Rattle.tag.specs.declared.refusal.Refusal.{Refusal}
use Rattle.printing.specs.declared.outcome.Outcome.{Outcome}
use Rattle.printing.specs.declared.outcome.Outcome.TheVariants as outcome
use Rattle.cluster.specs.Cluster.{Cluster, if_named}
use Rattle.cluster.specs.Steps.{with_step}
use Rattle.cluster.specs.Causes as causes
use Rattle.cluster.specs.Causes.{object_cause}
use Rattle.driver.specs.declared.messages.Handled.{Handled}
use Rattle.driver.specs.Choices.{step_of_handled, handled_result_at, handling_cause}
use Rattle.player.specs.declared.report.Report.{Report}
use Rattle.player.specs.declared.report.Report.TheVariants as of

-- whether the message at this place can be handled: it is a reply, or a request to a server that is up
abbrev pub can_handle_at : Cluster → (name : List ℕ) → (place : ℕ) → Option Bool
can_handle_at cluster name place = if_named cluster name (causes.handled_at cluster place)

-- no message before this place can be handled
abbrev pub NoneBefore : Cluster → (name : List ℕ) → (place : ℕ) → Type 0
NoneBefore cluster name place = (earlier : ℕ) → earlier < place → can_handle_at cluster name earlier ≡ Some false

-- the message at this place is the first that can be handled
pub record IsFirst (cluster : Cluster) (name : List ℕ) (place : ℕ) : Type 0 where
  pub here : can_handle_at cluster name place ≡ Some true
  pub none_before : NoneBefore cluster name place

-- this many steps lead from the old cluster to this one, each of which handles the first message that can be handled
pub data Delivers (name : List ℕ) (old : Cluster) : ℕ → Cluster → Type 0 where
  nothing : Delivers name old zero old
  then_handles : {count : ℕ} {cluster : Cluster} (place : ℕ) (handled : Handled) → Delivers name old count cluster →
      IsFirst cluster name place → if_named cluster name (handled_result_at place) ≡ Some handled →
      Delivers name old (suc count) (with_step cluster name (step_of_handled place handled))

-- no message of the object can be handled
abbrev pub HasNoneToHandle : Cluster → (name : List ℕ) → Type 0
HasNoneToHandle cluster name = (place : ℕ) → ¬ (can_handle_at cluster name place ≡ Some true)

-- why a delivery ends early: no object has this name, or the first message that can be handled is refused
abbrev pub IsDeliveryStopped : Cluster → (name : List ℕ) → Refusal → Type 0
IsDeliveryStopped cluster name refusal =
    (object_cause cluster name (λ object. None) ≡ Some refusal)
    ⊎ ((place : ℕ) × IsFirst cluster name place
    × IsRefusalBy (object_cause cluster name (handling_cause cluster place)) refusal)

-- how a delivery ends: no message can be handled any more, or one is refused
abbrev pub DeliversTo : Cluster → (name : List ℕ) → Cluster → Outcome → Type 0
DeliversTo old name new (outcome.Handled count) =
    Delivers name old count new × (object_cause new name (λ object. None) ≡ None) × HasNoneToHandle new name
DeliversTo old name new (outcome.Refused refusal) =
    (count : ℕ) × Delivers name old count new × IsDeliveryStopped new name refusal
DeliversTo old name new _ = ⊥

-- the first message that can be handled is handled, again and again, until none can be or one is refused; the steps
-- before a refusal stay made
abbrev pub DeliversAll : Cluster → (name : List ℕ) → Cluster → Report → Type 0
DeliversAll old name new (of.Did outcome) = DeliversTo old name new outcome
DeliversAll old name new _ = ⊥
