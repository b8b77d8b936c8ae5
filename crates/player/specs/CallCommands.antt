-- The contracts that docs/trusted.md lists do not depend on this file; other contracts and proofs do.
-- The commands that make one step of a call.
use Rattle.std.specs.Prelude.{ℕ, suc, pred, List, length, Option, Some, option_map}
use Rattle.record.specs.Steps.{Step}
use Rattle.register.specs.Causes.{read_cause, write_cause, advance_cause, again_cause, post_cause, answer_cause}
use Rattle.register.specs.View.{receipt_at}
use Rattle.cluster.specs.Cluster.{Cluster, next_call_id, if_named, place_of}
use Rattle.cluster.specs.Steps.{with_step, moved}
use Rattle.cluster.specs.Causes.{next, object_cause, moving_cause}
use Rattle.player.specs.declared.report.Report.{Report}
use Rattle.player.specs.declared.report.Report.TheVariants as of
use Rattle.player.specs.Report.{done, called}
use Rattle.player.specs.ClusterCommands.{layout_number}
use Rattle.player.specs.Steps.{IsGrowth}

-- the report of the next call of the object of this name; none if no object has it
abbrev pub next_call : Cluster → (name : List ℕ) → Option Report
next_call cluster name = option_map called (if_named cluster name (λ object. Some (suc (length object.calls))))

-- the command begins a read
abbrev pub CallsRead : Cluster → (name : List ℕ) → Cluster → Report → Type 0
CallsRead old name new report =
    IsGrowth old (with_step old name (Step.CallRead (next_call_id old name)))
    (object_cause old name (λ object. read_cause (next old) object))
    (next_call old name) new report

-- the command begins a write of this value
abbrev pub CallsWrite : Cluster → (name value : List ℕ) → Cluster → Report → Type 0
CallsWrite old name value new report =
    IsGrowth old (with_step old name (Step.CallWrite (next_call_id old name) value))
    (object_cause old name (λ object. write_cause value (next old) object))
    (next_call old name) new report

-- the command begins a move to the layout of this number
abbrev pub CallsMove : Cluster → (name : List ℕ) → (layout : ℕ) → Cluster → Report → Type 0
CallsMove old name layout new report =
    IsGrowth old (moved old name (layout_number layout))
    (object_cause old name (moving_cause old (layout_number layout))) (next_call old name) new report

-- the call of this number begins the phase that is due
abbrev pub Advances : Cluster → (name : List ℕ) → (call : ℕ) → Cluster → Report → Type 0
Advances old name call new report =
    IsGrowth old (with_step old name (Step.Advance (pred call)))
    (object_cause old name (λ object. advance_cause (next old) object call))
    (Some done) new report

-- the call of this number, whose fetch lacks pieces, is restarted
abbrev pub BeginsAnew : Cluster → (name : List ℕ) → (call : ℕ) → Cluster → Report → Type 0
BeginsAnew old name call new report =
    IsGrowth old (with_step old name (Step.Again (pred call)))
    (object_cause old name (λ object. again_cause (next old) object call))
    (Some done) new report

-- the call of this number resends the requests of its current phase
abbrev pub Posts : Cluster → (name : List ℕ) → (call : ℕ) → Cluster → Report → Type 0
Posts old name call new report =
    IsGrowth old (with_step old name (Step.Post (pred call)))
    (object_cause old name (λ object. post_cause (next old) object call))
    (Some done) new report

-- the report of the receipt that the call of this number would get now; none if there is no such call
abbrev pub next_receipt : Cluster → (name : List ℕ) → (call : ℕ) → Option Report
next_receipt cluster name call =
    option_map of.Answered
    (if_named cluster name (λ object. receipt_at object (place_of cluster.objects name) call (next cluster)))

-- the call of this number is answered
abbrev pub AnswersCall : Cluster → (name : List ℕ) → (call : ℕ) → Cluster → Report → Type 0
AnswersCall old name call new report =
    IsGrowth old (with_step old name (Step.AnswerCall (pred call)))
    (object_cause old name (λ object. answer_cause (next old) object call))
    (next_receipt old name call) new report
