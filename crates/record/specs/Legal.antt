-- Which records of an object are legal: the rules of layouts, calls, phases, moves and banks.
use Rattle.std.specs.Prelude.{◌≡◌, ℕ, suc, ◌<◌, ◌≤◌, ◌⊎◌, Bool, true, false}
use Rattle.std.specs.Prelude.{if◌then◌else◌, List, [], ◌∷◌, length, take, Option, Some, None, slice_get}
use Rattle.std.specs.List.{AllByRecursion}
use Rattle.tag.specs.declared.tag.Tag.{Tag}
use Rattle.tag.specs.Tag.{opening_tag}
use Rattle.layout.specs.Layout.{IsLawful}
use Rattle.bank.specs.declared.kind.Kind.{Kind}
use Rattle.mail.specs.Phase.{Phase}
use Rattle.record.specs.declared.call.CallKind.{CallKind}
use Rattle.record.specs.Records.{Call, Object, layout_at, bank_at, base_at, base_of}
use Rattle.bank.specs.Bank.{Bank}
use Rattle.bank.specs.declared.status.Status.TheVariants.{Pending, Final}
use Rattle.bank.specs.declared.kind.Kind.TheVariants.{Spread, PreWrite, Finalize, Fetch}
use Rattle.record.specs.declared.call.CallKind.TheVariants.{Read, Write, Move}
use Rattle.record.specs.Knowledge.{IsTruePhase}
use Rattle.bank.specs.Knowledge.{finalized_at, arrived_at, pending_since, final_since}
use Rattle.record.specs.declared.stage.Stage.{Stage}
use Rattle.record.specs.PhaseOrder.{begun_at, due, stage_after, IsCourse, BeginAtBase, EndsBefore}
use Rattle.record.specs.declared.stage.Stage.TheVariants.{ReadBegin, MoveSpread}

-- whether a call is a move
abbrev pub is_move : CallKind → Bool
is_move Read = false
is_move (Write value) = false
is_move Move = true

-- how many of the calls are moves
abbrev pub moves_in : List Call → ℕ
moves_in [] = 0
moves_in (call ∷ calls) = if is_move call.kind then suc (moves_in calls) else moves_in calls

-- the stage at which a call begins; a move leads from the position whose number is the number of moves before it
abbrev pub first_stage : CallKind → (moves : ℕ) → Stage
first_stage Read moves = ReadBegin
first_stage (Write value) moves = ReadBegin
first_stage Move moves = MoveSpread moves

-- the position that a move leads from if it is the call at this index
abbrev pub source_of : Object → (index : ℕ) → ℕ
source_of object index = moves_in (take index object.calls)

-- the stage of the call at this index
abbrev pub stage_of : Object → (index : ℕ) → Call → Stage
stage_of object index call =
    stage_after call.kind call.id (first_stage call.kind (source_of object index)) call.phases

-- the phase that is due for the call at this index, with its position; a first reading would begin at the base
abbrev pub due_of : Object → (index : ℕ) → Call → Option (Kind × ℕ)
due_of object index call = due (begun_at (stage_of object index call) (base_of object))

-- the phases are numbered from `number` on, and name this call
abbrev pub AreNumbered : (call number : ℕ) → List Phase → Type 0
AreNumbered call number [] = Unit {0}
AreNumbered call number (phase ∷ phases) =
    (phase.call ≡ call) × (phase.number ≡ number) × AreNumbered call (suc number) phases

-- the first phase began at this step
abbrev pub BeginsAt : List Phase → ℕ → Type 0
BeginsAt [] step = ⊥
BeginsAt (phase ∷ phases) step = phase.start ≡ step

-- the call's phases are numbered, true and in order; first readings began at the base; any answer came after the last
pub record IsLegalCall (object : Object) (index : ℕ) (call : Call) : Type 0 where
  pub numbered : AreNumbered call.id 1 call.phases
  pub begins : BeginsAt call.phases call.called
  pub phases : AllByRecursion (IsTruePhase object) call.phases
  pub course : IsCourse call.kind call.id (first_stage call.kind (source_of object index)) call.phases
  pub from_base : BeginAtBase (base_at object) call.kind call.id (first_stage call.kind (source_of object index))
      call.phases
  pub answer : (step : ℕ) → call.answered ≡ Some step →
      (due (stage_of object index call) ≡ None) × EndsBefore call.phases step

-- a phase of this kind began at this position before the step
pub record HasBegun (object : Object) (kind : Kind) (position step : ℕ) : Type 0 where
  pub index : ℕ
  pub call : Call
  pub at : slice_get object.calls index ≡ Some call
  pub place : ℕ
  pub phase : Phase
  pub within : slice_get call.phases place ≡ Some phase
  pub same_kind : phase.kind ≡ kind
  pub same_position : phase.position ≡ position
  pub before : phase.start < step

-- the move out of this position was answered at this step
pub record IsMovedOut (object : Object) (position answered : ℕ) : Type 0 where
  pub index : ℕ
  pub call : Call
  pub at : slice_get object.calls index ≡ Some call
  pub kind : call.kind ≡ Move
  pub source : source_of object index ≡ position
  pub was : call.answered ≡ Some answered

-- what the bank knows but for the opening tag, a phase asked of it; it retired only after the move out was answered
pub record IsCaused (object : Object) (position : ℕ) (bank : Bank) : Type 0 where
  pub finalized : (tag : Tag) (step : ℕ) → finalized_at bank tag ≡ Some step → (tag ≡ opening_tag)
      ⊎ (HasBegun object (Finalize tag) position step ⊎ HasBegun object (Fetch tag) position step)
  pub arrived : (tag : Tag) (step : ℕ) → arrived_at bank tag ≡ Some step →
      (tag ≡ opening_tag) ⊎ HasBegun object (PreWrite tag) position step
  pub pending : (step : ℕ) → pending_since bank.pointer ≡ Some step →
      HasBegun object (Spread Pending) position step ⊎ HasBegun object (Spread Final) position step
  pub final : (step : ℕ) → final_since bank.pointer ≡ Some step → HasBegun object (Spread Final) position step
  pub retired : (step : ℕ) → bank.retired ≡ Some step →
      (answered : ℕ) × IsMovedOut object position answered × (answered < step)

-- the bank has had the opening tag, finalized and with a piece, since this step
pub record IsOpenedAt (bank : Bank) (step : ℕ) : Type 0 where
  pub finalized : finalized_at bank opening_tag ≡ Some step
  pub arrived : arrived_at bank opening_tag ≡ Some step

-- the bank was opened at this step or earlier
abbrev pub IsOpenedBy : Bank → ℕ → Type 0
IsOpenedBy bank step = (opened : ℕ) × IsOpenedAt bank opened × (opened ≤ step)

-- the members of the phase's position had opened their banks when the phase began
abbrev pub AreOpened : Object → Phase → Type 0
AreOpened object phase = (member : ℕ) → member < length (layout_at object phase.position).members →
    IsOpenedBy (bank_at object phase.position member) phase.start

-- every phase began when the banks of its position were open
abbrev pub BeginInOpen : Object → Type 0
BeginInOpen object =
    (index place : ℕ) (call : Call) (phase : Phase) → slice_get object.calls index ≡ Some call →
    slice_get call.phases place ≡ Some phase → AreOpened object phase

-- the record is legal: its layouts, its calls in the order of their steps and each with an id of its own, its moves one
-- at a time, and its banks
pub record IsLegal (object : Object) : Type 0 where
  pub layouts : AllByRecursion IsLawful object.layouts
  pub calls : (index : ℕ) (call : Call) → slice_get object.calls index ≡ Some call →
      IsLegalCall object index call
  pub in_turn : (i j : ℕ) (a b : Call) → slice_get object.calls i ≡ Some a →
      slice_get object.calls j ≡ Some b → i < j → a.called < b.called
  pub ids : (i j : ℕ) (a b : Call) → slice_get object.calls i ≡ Some a →
      slice_get object.calls j ≡ Some b → a.id ≡ b.id → i ≡ j
  pub moves : (i j : ℕ) (a b : Call) → slice_get object.calls i ≡ Some a →
      slice_get object.calls j ≡ Some b → i < j → a.kind ≡ Move → b.kind ≡ Move →
      (step : ℕ) × (a.answered ≡ Some step) × (step < b.called)
  pub banks : (position member : ℕ) → IsCaused object position (bank_at object position member)
