-- What the driver says of a whole call gives what the player says of the command that makes it.
use Rattle.std.proofs.Common.{◌≡◌, ℕ, List, subst, Option, Result, Ok, Err, sym, refl, inl, inr}
use Rattle.tag.specs.declared.refusal.Refusal.{Refusal}
use Rattle.call.specs.declared.receipt.Receipt.{Receipt}
use Rattle.record.specs.Steps.{Step}
use Rattle.cluster.specs.Cluster.{Cluster, next_call_id, layout_numbered}
use Rattle.cluster.specs.Causes.{object_cause, moving_cause}
use Rattle.cluster.specs.Steps.{moved, with_step}
use Rattle.driver.specs.declared.chooser.First.{First}
use Rattle.driver.specs.declared.whole_call.NotAnswered.{NotAnswered}
use Rattle.driver.specs.declared.whole_call.NotAnswered.TheVariants as unanswered
use Rattle.driver.specs.WholeCalls as of
use Rattle.player.specs.declared.report.Report.{Report}
use Rattle.player.specs.Report.{whole_report}
use Rattle.player.specs.WholeCalls.{IsWholeRun, chooses_first}

pub told : (name : List ℕ) (turns : ℕ) (old : Cluster) (before : First) (new : Cluster) (after : First) (cause : Option
    Refusal) (step : Step) (answer : Result Receipt NotAnswered) (report : Report) →
    of.IsWholeCall chooses_first name turns old before new after cause step answer → report ≡ whole_report answer →
    IsWholeRun old (with_step old name step) cause name turns new report
told name turns old before new after cause step (Ok receipt) report is tells =
    subst (IsWholeRun old (with_step old name step) cause name turns new) (sym tells)
    (inl (is.0, is.1, is.2, (before, after, is.4)))
told name turns old before new after cause step (Err (unanswered.Open call refusal)) report is tells =
    subst (IsWholeRun old (with_step old name step) cause name turns new) (sym tells)
    (inl (call, is.0, is.1, (refl, (before, after, is.3))))
told name turns old before new after cause step (Err (unanswered.NotCalled refusal)) report is tells = inr (refusal, is.0, (is.1, tells))

-- the number of a layout as it was handed over
pub told_move : (name : List ℕ) (turns : ℕ) (old : Cluster) (before : First) (new : Cluster) (after : First)
    (id number : ℕ) (answer : Result Receipt NotAnswered) (report : Report) → id ≡ number →
    of.IsWholeMove chooses_first name turns old before new after id answer → report ≡ whole_report answer →
    IsWholeRun old (moved old name number) (object_cause old name (moving_cause old number)) name turns new report
told_move name turns old before new after id number answer report same is tells =
    subst (λ n. IsWholeRun old (moved old name n) (object_cause old name (moving_cause old n)) name turns new report) same
    (told name turns old before new after (object_cause old name (moving_cause old id))
    (Step.CallMove (next_call_id old name) (layout_numbered old id)) answer report
    is tells)
