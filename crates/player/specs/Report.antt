-- The contracts that docs/trusted.md lists do not depend on this file; other contracts and proofs do.
-- What is reported about a command that may change the cluster.
use Rattle.std.specs.Prelude.{ℕ, List, Result, Ok, Err}
use Rattle.tag.specs.declared.refusal.Refusal.{Refusal}
use Rattle.mail.specs.declared.phase.Took.{Took}
use Rattle.printing.specs.declared.outcome.Outcome.TheVariants as outcome
use Rattle.printing.specs.Outcome.{outcome_text}
use Rattle.printing.specs.AnswerLine.{answer_text}
use Rattle.call.specs.declared.receipt.Receipt.{Receipt}
use Rattle.driver.specs.declared.whole_call.NotAnswered.{NotAnswered}
use Rattle.driver.specs.declared.whole_call.NotAnswered.TheVariants as unanswered
use Rattle.player.specs.declared.report.Report.{Report}
use Rattle.player.specs.declared.report.Report.TheVariants as of

-- the line of a report, without its line feed
abbrev pub report_text : Report → List ℕ
report_text (of.Did outcome) = outcome_text outcome
report_text (of.Answered receipt) = answer_text receipt

-- the report of a step that returns nothing
abbrev pub done : Report
done = of.Did outcome.Done

-- the report of a layout that was added with this number
abbrev pub added_layout : (id : ℕ) → Report
added_layout id = of.Did (outcome.Layout id)

-- the report of a call that began with this number
abbrev pub called : (call : ℕ) → Report
called call = of.Did (outcome.Called call)

-- the report of what a call did with a reply
abbrev pub took : Took → Report
took how = of.Did (outcome.Took how)

-- the report of how many bytes were freed
abbrev pub freed : (bytes : ℕ) → Report
freed bytes = of.Did (outcome.Freed bytes)

-- the report of a command that was refused
abbrev pub refused : Refusal → Report
refused refusal = of.Did (outcome.Refused refusal)

-- the report of what a step returns, or of its refusal
abbrev pub report_of : {T : Type 0} → (T → Report) → Result T Refusal → Report
report_of tell (Ok given) = tell given
report_of tell (Err refusal) = refused refusal

-- the report of a whole call: its answer, the refusal of its first step, or that of the driver, which names the call
abbrev pub whole_report : Result Receipt NotAnswered → Report
whole_report (Ok receipt) = of.Answered receipt
whole_report (Err (unanswered.NotCalled refusal)) = refused refusal
whole_report (Err (unanswered.Open call refusal)) = of.Did (outcome.CallRefused call refusal)
