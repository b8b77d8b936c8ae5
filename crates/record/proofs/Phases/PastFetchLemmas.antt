-- A call whose fetch is behind it: it fetches no more, and keeps its tag. A write never fetches.
use Rattle.std.proofs.Common.{◌≡◌, ℕ, Bool, false, List, [], ◌∷◌, Some, arith}
use Rattle.tag.specs.declared.tag.Tag.{Tag}
use Rattle.bank.specs.declared.kind.Kind.TheVariants.{Fetch}
use Rattle.mail.specs.declared.phase.Taken.{Taken}
use Rattle.mail.specs.Phase.{Phase}
use Rattle.record.specs.declared.call.CallKind.{CallKind}
use Rattle.record.specs.declared.call.CallKind.TheVariants.{Write}
use Rattle.record.specs.Legal.{first_stage}
use Rattle.record.specs.PhaseOrder.{begun_at, due, after, stage_past, stage_after}
use Rattle.record.specs.Journals.{stage_tag}
use Rattle.record.specs.declared.stage.Stage.{Stage}
use Rattle.record.specs.declared.stage.Stage.TheVariants.{FetchAt, PreWriteAt}
use Rattle.record.specs.declared.stage.Stage.TheVariants.{FinalizeAt, AgainNext, AgainSpread, MoveSpread, MoveQuery}
use Rattle.record.specs.declared.stage.Stage.TheVariants.{MoveFetch, MovePreWrite, MoveFinalize, MoveFinal, Ended, Moved}

-- a call that has fetched what it needs, or never has to
abbrev pub IsLate : Stage → Type 0
IsLate (PreWriteAt l t) = Unit {0}
IsLate (FinalizeAt l t) = Unit {0}
IsLate (AgainNext l p t) = Unit {0}
IsLate (AgainSpread l p t s) = Unit {0}
IsLate (MovePreWrite p t) = Unit {0}
IsLate (MoveFinalize p t) = Unit {0}
IsLate (MoveFinal p t) = Unit {0}
IsLate (Ended l t) = Unit {0}
IsLate (Moved p t) = Unit {0}
IsLate _ = ⊥

-- it is late, with this tag
abbrev pub IsLateWith : Tag → Stage → Type 0
IsLateWith tag stage = IsLate stage × (stage_tag stage ≡ Some tag)

pub late_after : (kind : CallKind) (number : ℕ) (stage : Stage) (replies : List Taken) (lacks : Bool) (tag : Tag) →
    IsLateWith tag stage → IsLateWith tag (after kind number stage replies lacks)
late_after kind number stage replies lacks tag late = grind arith

pub late_begun : (stage : Stage) (position : ℕ) (tag : Tag) → IsLateWith tag stage → IsLateWith tag (begun_at stage position)
late_begun stage position tag late = grind arith

pub late_past : (kind : CallKind) (number : ℕ) (stage : Stage) (phase : Phase) (tag : Tag) → IsLateWith tag stage →
    IsLateWith tag (stage_past kind number stage phase)
late_past kind number stage phase tag late = grind arith

pub late_stays : (kind : CallKind) (number : ℕ) (phases : List Phase) (stage : Stage) (tag : Tag) → IsLateWith tag stage →
    IsLateWith tag (stage_after kind number stage phases)
late_stays kind number [] stage tag late = late
late_stays kind number (phase ∷ phases) stage tag late =
    late_stays kind number phases (stage_past kind number stage phase) tag (late_past kind number stage phase tag late)

-- the tag that is fetched is the call's
pub fetch_due : (stage : Stage) (tag : Tag) (position : ℕ) → due stage ≡ Some (Fetch tag, position) → stage_tag stage ≡ Some tag
fetch_due stage tag position e = grind arith

-- a fetch that lacks no pieces makes the call late
pub fetch_late : (kind : CallKind) (number : ℕ) (stage : Stage) (replies : List Taken) (tag : Tag) (position : ℕ) →
    due stage ≡ Some (Fetch tag, position) → IsLateWith tag (after kind number stage replies false)
fetch_late kind number stage replies tag position e = grind arith

-- Writes

-- a stage that a write may come to
abbrev pub IsOfWrite : Stage → Type 0
IsOfWrite (FetchAt q l t) = ⊥
IsOfWrite (MoveSpread p) = ⊥
IsOfWrite (MoveQuery p) = ⊥
IsOfWrite (MoveFetch p t) = ⊥
IsOfWrite _ = Unit {0}

pub late_of_write : (stage : Stage) → IsOfWrite stage → (tag : Tag) → stage_tag stage ≡ Some tag → IsLateWith tag stage
late_of_write stage of tag e = grind arith

-- from a stage that a write may come to, a phase of a write leads to such a stage
pub of_write_past : (value : List ℕ) (kind : CallKind) → kind ≡ Write value → (number : ℕ) (stage : Stage) (phase : Phase) →
    IsOfWrite stage → IsOfWrite (stage_past kind number stage phase)
of_write_past value kind k number stage phase of = grind arith

pub of_write_first : (value : List ℕ) (kind : CallKind) (from : ℕ) → kind ≡ Write value → IsOfWrite (first_stage kind from)
of_write_first value kind from k = cc
