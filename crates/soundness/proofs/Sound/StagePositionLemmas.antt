-- The stages of a call are at positions that are there.
use Rattle.std.proofs.Common.{◌≡◌, ℕ, zero, suc, ◌<◌, ◌≤◌, Bool}
use Rattle.std.proofs.Common.{List, [], ◌∷◌, Option, Some, None, sym, subst, arith, slice_get}
use Rattle.std.proofs.lemmas.Option.{same_Some}
use Rattle.std.specs.List.{AllByRecursion}
use Rattle.bank.specs.declared.kind.Kind.{Kind}
use Rattle.mail.specs.declared.phase.Taken.{Taken}
use Rattle.mail.specs.Phase.{Phase, lacks_pieces}
use Rattle.record.specs.declared.call.CallKind.{CallKind}
use Rattle.bank.specs.declared.kind.Kind.TheVariants.{Next, Spread}
use Rattle.record.specs.PhaseOrder.{begun_at, greatest_status, due, passed, stage_past, stage_after}
use Rattle.record.specs.PhaseOrder.{IsCourse}
use Rattle.record.specs.declared.stage.Stage.{Stage}
use Rattle.record.specs.declared.stage.Stage.TheVariants.{ReadBegin, ReadNext, ReadSpread, QueryFrom, FetchAt, PreWriteAt}
use Rattle.record.specs.declared.stage.Stage.TheVariants.{FinalizeAt, AgainNext, AgainSpread, MoveSpread, MoveQuery}
use Rattle.record.specs.declared.stage.Stage.TheVariants.{MoveFetch, MovePreWrite, MoveFinalize, MoveFinal, Ended, Moved}
use Rattle.soundness.proofs.StatusOrderLemmas.{rank}

-- the positions of a stage are among `count` positions
abbrev pub Placed : (count : ℕ) → Stage → Type 0
Placed count ReadBegin = 0 < count
Placed count (ReadNext position finalized) = (finalized ≤ position) × (position < count)
Placed count (ReadSpread position finalized status) = (finalized ≤ position) × (suc position < count)
Placed count (QueryFrom position last greatest shown_at) = (position ≤ last) × (shown_at < count) × (last < count)
Placed count (FetchAt shown_at last tag) = (shown_at < count) × (last < count)
Placed count (PreWriteAt last tag) = last < count
Placed count (FinalizeAt last tag) = last < count
Placed count (AgainNext last position tag) = (last < count) × (position < count)
Placed count (AgainSpread last position tag status) = (last < count) × (suc position < count)
Placed count (MoveSpread position) = suc position < count
Placed count (MoveQuery position) = suc position < count
Placed count (MoveFetch position tag) = suc position < count
Placed count (MovePreWrite position tag) = suc position < count
Placed count (MoveFinalize position tag) = suc position < count
Placed count (MoveFinal position tag) = suc position < count
Placed count (Ended last tag) = Unit {0}
Placed count (Moved position tag) = Unit {0}

-- a phase is at one of the positions, and what it spreads names another one
abbrev pub KindPlaced : (count : ℕ) → Kind → (position : ℕ) → Type 0
KindPlaced count (Spread status) position = suc position < count
KindPlaced count _ position = position < count

abbrev pub DuePlaced : (count : ℕ) → Option (Kind × ℕ) → Type 0
DuePlaced count None = Unit {0}
DuePlaced count (Some next) = KindPlaced count next.0 next.1

pub due_placed : (count : ℕ) (stage : Stage) → Placed count stage → DuePlaced count (due stage)
due_placed count stage placed = grind arith

pub kind_placed : (count : ℕ) (kind : Kind) (position : ℕ) → KindPlaced count kind position → position < count
kind_placed count kind position placed = grind arith

-- a pointer that a phase found names one of the positions
abbrev pub Finds : (count : ℕ) → Kind → (position : ℕ) → List Taken → Type 0
Finds count kind position replies = kind ≡ Next → 1 ≤ rank (greatest_status replies) → suc position < count

abbrev DueFinds : (count : ℕ) → Option (Kind × ℕ) → List Taken → Type 0
DueFinds count None replies = Unit {0}
DueFinds count (Some next) replies = Finds count next.0 next.1 replies

placed_passed : (count : ℕ) (kind : CallKind) (number : ℕ) (stage : Stage) (end : Option ℕ) (replies : List Taken) (lacks : Bool) →
    DueFinds count (due stage) replies → Placed count stage → Placed count (passed kind number stage end replies lacks)
placed_passed count kind number stage end replies lacks finds placed = grind arith

abbrev pub PhaseFinds : (count : ℕ) → Phase → Type 0
PhaseFinds count phase = (phase.position < count) × Finds count phase.kind phase.position phase.replies

-- a stage whose phase begins at a position that is there
pub placed_begun : (count : ℕ) (stage : Stage) (position : ℕ) → position < count → Placed count stage →
    Placed count (begun_at stage position)
placed_begun count stage position below placed = grind arith

-- so is the stage after the phases of a course
pub placed_end : (count : ℕ) (kind : CallKind) (number : ℕ) (phases : List Phase) (stage : Stage) →
    IsCourse kind number stage phases → AllByRecursion (PhaseFinds count) phases → Placed count stage →
    Placed count (stage_after kind number stage phases)
placed_end count kind number [] stage course finds placed = placed
placed_end count kind number (phase ∷ phases) stage course finds placed =
    placed_end count kind number phases (stage_past kind number stage phase) course.2 finds.1
    (placed_passed count kind number (begun_at stage phase.position) phase.end phase.replies (lacks_pieces phase)
    (subst (λ next. DueFinds count next phase.replies) (sym course.0) finds.0.1)
    (placed_begun count stage phase.position finds.0.0 placed))

-- and each phase
pub placed_at : (count : ℕ) (kind : CallKind) (number : ℕ) (phases : List Phase) (stage : Stage) →
    IsCourse kind number stage phases → AllByRecursion (PhaseFinds count) phases → Placed count stage →
    (place : ℕ) (phase : Phase) → slice_get phases place ≡ Some phase → KindPlaced count phase.kind phase.position
placed_at count kind number [] stage course finds placed place phase e = absurd (cc)
placed_at count kind number (first ∷ phases) stage course finds placed zero phase e =
    subst (λ p. KindPlaced count p.kind p.position) (same_Some first phase e)
    (subst (λ next. DuePlaced count next) course.0
    (due_placed count (begun_at stage first.position) (placed_begun count stage first.position finds.0.0 placed)))
placed_at count kind number (first ∷ phases) stage course finds placed (suc place) phase e =
    placed_at count kind number phases (stage_past kind number stage first) course.2 finds.1
    (placed_passed count kind number (begun_at stage first.position) first.end first.replies (lacks_pieces first)
    (subst (λ next. DueFinds count next first.replies) (sym course.0) finds.0.1)
    (placed_begun count stage first.position finds.0.0 placed)) place phase e
