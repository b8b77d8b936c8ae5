-- The contracts that docs/trusted.md lists do not depend on this file; other contracts and proofs do.
-- Whole calls: the step that begins a call, and then the driver.
use Rattle.std.specs.Prelude.{◌≡◌, ◌⊎◌, ℕ, suc, false, List, length, Option, Some, None, Result, Ok, Err}
use Rattle.tag.specs.declared.refusal.Refusal.{Refusal}
use Rattle.tag.specs.declared.refusal.Refusal.TheVariants.{NoMemory}
use Rattle.record.specs.Steps.{Step}
use Rattle.register.specs.Causes.{read_cause, write_cause}
use Rattle.call.specs.declared.receipt.Receipt.{Receipt}
use Rattle.cluster.specs.Causes.{next, object_cause, moving_cause}
use Rattle.cluster.specs.Cluster.{Cluster, next_call_id, if_named, layout_numbered}
use Rattle.cluster.specs.Preconditions.{MayMake}
use Rattle.cluster.specs.Steps.{with_step}
use Rattle.driver.specs.declared.whole_call.NotAnswered.{NotAnswered}
use Rattle.driver.specs.declared.whole_call.NotAnswered.TheVariants as unanswered
use Rattle.driver.specs.Driver.{FinishesCall, IsUnfinished}

-- the number of the next call of the object of this name
abbrev pub next_number : Cluster → (name : List ℕ) → Option ℕ
next_number cluster name = if_named cluster name (λ object. Some (suc (length object.calls)))

module _ {C : Type 0} (chooses : C → ℕ → ℕ → C → Type 0) (name : List ℕ) (turns : ℕ) (old : Cluster) (before : C)
    (new : Cluster) (after : C) where
  -- the call begins with this step, which may be made, and the driver answers the call or is refused; or the first step
  -- is refused, by this cause or for want of memory, and nothing changes
  abbrev pub IsWholeCall : (cause : Option Refusal) → (step : Step) → Result Receipt NotAnswered → Type 0
  IsWholeCall cause step (Ok receipt) =
      (call : ℕ) × (cause ≡ None) × (next_number old name ≡ Some call) × MayMake old name step
      × FinishesCall chooses name call false turns (with_step old name step) before new after receipt
  IsWholeCall cause step (Err (unanswered.Open call refusal)) =
      (cause ≡ None) × (next_number old name ≡ Some call) × MayMake old name step
      × IsUnfinished chooses name call false turns (with_step old name step) before new after refusal
  IsWholeCall cause step (Err (unanswered.NotCalled refusal)) =
      ((cause ≡ Some refusal) ⊎ ((cause ≡ None) × (refusal ≡ NoMemory))) × (new ≡ old) × (after ≡ before)

  -- a whole read has this outcome
  abbrev pub IsWholeRead : Result Receipt NotAnswered → Type 0
  IsWholeRead answer =
      IsWholeCall (object_cause old name (λ object. read_cause (next old) object))
      (Step.CallRead (next_call_id old name)) answer

  -- a whole write of this value has this outcome
  abbrev pub IsWholeWrite : (value : List ℕ) → Result Receipt NotAnswered → Type 0
  IsWholeWrite value answer =
      IsWholeCall (object_cause old name (λ object. write_cause value (next old) object))
      (Step.CallWrite (next_call_id old name) value) answer

  -- a whole move to the layout of this number has this outcome
  abbrev pub IsWholeMove : (id : ℕ) → Result Receipt NotAnswered → Type 0
  IsWholeMove id answer =
      IsWholeCall (object_cause old name (moving_cause old id))
      (Step.CallMove (next_call_id old name) (layout_numbered old id)) answer
