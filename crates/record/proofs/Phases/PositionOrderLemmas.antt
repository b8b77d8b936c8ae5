-- A call reads positions in order.
use Rattle.std.proofs.Common.{ℕ, ◌≤◌, Bool, List, arith, le_refl}
use Rattle.mail.specs.declared.phase.Taken.{Taken}
use Rattle.record.specs.declared.call.CallKind.{CallKind}
use Rattle.record.specs.declared.stage.Stage.{Stage}
use Rattle.record.specs.declared.stage.Stage.TheVariants.{ReadNext, ReadSpread, QueryFrom}
use Rattle.record.specs.PhaseOrder.{after, begun_at}
use Rattle.record.specs.Legal.{first_stage}
use Rattle.record.proofs.BegunStageLemmas.{begun_has}

-- stages that can come to an end: positions are in order
abbrev pub IsOrderly : Stage → Type 0
IsOrderly (ReadNext position finalized) = finalized ≤ position
IsOrderly (ReadSpread position finalized status) = finalized ≤ position
IsOrderly (QueryFrom position last greatest shown_at) = position ≤ last
IsOrderly _ = Unit {0}

pub orderly_after : (kind : CallKind) (number : ℕ) (stage : Stage) (replies : List Taken) (lacks : Bool) → IsOrderly stage →
    IsOrderly (after kind number stage replies lacks)
orderly_after kind number stage replies lacks h = grind arith

pub orderly_first : (kind : CallKind) (from : ℕ) → IsOrderly (first_stage kind from)
orderly_first kind from = grind arith

pub orderly_begun : (stage : Stage) (position : ℕ) → IsOrderly stage → IsOrderly (begun_at stage position)
orderly_begun stage position h = begun_has (λ s. IsOrderly s) stage position (λ first. le_refl position) h
