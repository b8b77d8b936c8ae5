-- The contracts that docs/trusted.md lists do not depend on this file; other contracts and proofs do.
-- Whole calls: the step that begins a call, and then the driver, which always handles the call's first message.
use Rattle.std.specs.Prelude.{◌≡◌, ◌⊎◌, ℕ, Bool, true, false, List, Option, Some, None}
use Rattle.tag.specs.Cause.{IsRefusalBy}
use Rattle.tag.specs.declared.refusal.Refusal.{Refusal}
use Rattle.record.specs.Steps.{Step}
use Rattle.register.specs.Causes.{number_cause, read_cause, write_cause}
use Rattle.printing.specs.declared.outcome.Outcome.{Outcome}
use Rattle.printing.specs.declared.outcome.Outcome.TheVariants as outcome
use Rattle.driver.specs.declared.chooser.First.{First}
use Rattle.driver.specs.Driver.{FinishesCall, IsUnfinished}
use Rattle.driver.specs.WholeCalls.{next_number}
use Rattle.cluster.specs.Cluster.{Cluster, next_call_id}
use Rattle.cluster.specs.Steps.{with_step, moved}
use Rattle.cluster.specs.Causes.{next, object_cause, moving_cause}
use Rattle.player.specs.declared.report.Report.{Report}
use Rattle.player.specs.declared.report.Report.TheVariants as of
use Rattle.player.specs.ClusterCommands.{layout_number}
use Rattle.player.specs.Steps.{IsRefusedCommand}

-- the first of the messages that can be handled is chosen
abbrev pub chooses_first : First → (below answer : ℕ) → First → Type 0
chooses_first before below answer after = answer ≡ 0

-- the driver is refused, and the outcome names the call, which stays open
abbrev pub LeavesOpen : (name : List ℕ) → (call : ℕ) → (resumed : Bool) → (turns : ℕ) →
    (begun new : Cluster) → Outcome → Type 0
LeavesOpen name call resumed turns begun new (outcome.CallRefused number refusal) =
    (number ≡ call) × ((before : First) × (after : First)
    × IsUnfinished chooses_first name call resumed turns begun before new after refusal)
LeavesOpen name call resumed turns begun new _ = ⊥

-- the driver continues a call: it brings the call to its answer, or it is refused
abbrev pub ContinuesCall : (name : List ℕ) → (call : ℕ) → (resumed : Bool) → (turns : ℕ) →
    (begun new : Cluster) → Report → Type 0
ContinuesCall name call resumed turns begun new (of.Answered receipt) =
    (before : First) × (after : First)
    × FinishesCall chooses_first name call resumed turns begun before new after receipt
ContinuesCall name call resumed turns begun new (of.Did outcome) = LeavesOpen name call resumed turns begun new outcome

-- the call begins, in the cluster `begun`, and the driver continues it; or the first step is refused
abbrev pub IsWholeRun : (old begun : Cluster) → Option Refusal → (name : List ℕ) → (turns : ℕ) →
    (new : Cluster) → Report → Type 0
IsWholeRun old begun cause name turns new report =
    ((call : ℕ) × (cause ≡ None) × (next_number old name ≡ Some call)
    × ContinuesCall name call false turns begun new report)
    ⊎ ((refusal : Refusal) × IsRefusalBy cause refusal × IsRefusedCommand old refusal new report)

-- the command makes a whole read
abbrev pub Reads : Cluster → (name : List ℕ) → (turns : ℕ) → Cluster → Report → Type 0
Reads old name turns new report =
    IsWholeRun old (with_step old name (Step.CallRead (next_call_id old name)))
    (object_cause old name (λ object. read_cause (next old) object)) name turns new report

-- the command makes a whole write of this value
abbrev pub WritesValue : Cluster → (name value : List ℕ) → (turns : ℕ) → Cluster → Report → Type 0
WritesValue old name value turns new report =
    IsWholeRun old (with_step old name (Step.CallWrite (next_call_id old name) value))
    (object_cause old name (λ object. write_cause value (next old) object))
    name turns new report

-- the command makes a whole move to the layout of this number
abbrev pub Moves : Cluster → (name : List ℕ) → (layout turns : ℕ) → Cluster → Report → Type 0
Moves old name layout turns new report =
    IsWholeRun old (moved old name (layout_number layout))
    (object_cause old name (moving_cause old (layout_number layout))) name turns new report

-- the command continues a call that is there, whose first turn may resend or restart; or the command is refused
abbrev pub Resumes : Cluster → (name : List ℕ) → (call turns : ℕ) → Cluster → Report → Type 0
Resumes old name call turns new report =
    ((object_cause old name (λ object. number_cause object call) ≡ None)
    × ContinuesCall name call true turns old new report)
    ⊎ ((refusal : Refusal) × (object_cause old name (λ object. number_cause object call) ≡ Some refusal)
    × IsRefusedCommand old refusal new report)
