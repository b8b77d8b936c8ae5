-- A stage once its phase begins: a first reading stands at its position, and any other stage as it is.
use Rattle.std.proofs.Common.{◌≡◌, ℕ, Some, None, arith}
use Rattle.bank.specs.declared.kind.Kind.{Kind}
use Rattle.record.specs.declared.stage.Stage.{Stage}
use Rattle.record.specs.declared.stage.Stage.TheVariants.{ReadBegin, ReadNext}
use Rattle.record.specs.PhaseOrder.{begun_at, due}
use Rattle.record.specs.Journals.{stage_tag}

-- what holds of a stage, and of the first reading that begins if the stage is ReadBegin, holds once the phase has begun
pub begun_has : (P : Stage → Type 0) (stage : Stage) (position : ℕ) → (stage ≡ ReadBegin → P (ReadNext position position)) →
    P stage → P (begun_at stage position)
begun_has P stage position first has = grind arith

-- to begin gives no tag
pub begun_tag : (stage : Stage) (position : ℕ) → stage_tag (begun_at stage position) ≡ stage_tag stage
begun_tag stage position = grind arith

-- if no phase is due once the phase has begun, none was due before
pub begun_none : (stage : Stage) (position : ℕ) → due (begun_at stage position) ≡ None → due stage ≡ None
begun_none stage position e = grind arith

-- what is due once the stage begins at the base, is due at the position where it is
pub begun_due : (stage : Stage) (base : ℕ) (kind : Kind) (position : ℕ) → due (begun_at stage base) ≡ Some (kind, position) →
    due (begun_at stage position) ≡ Some (kind, position)
begun_due stage base kind position e = grind arith

-- and a first reading is due at the base
pub begun_base : (stage : Stage) (base : ℕ) (kind : Kind) (position : ℕ) → stage ≡ ReadBegin →
    due (begun_at stage base) ≡ Some (kind, position) → position ≡ base
begun_base stage base kind position first e = grind arith

-- a stage whose phase has begun stays
pub begun_twice : (stage : Stage) (position other : ℕ) → begun_at (begun_at stage position) other ≡ begun_at stage position
begun_twice stage position other = grind arith

-- a stage that is no first reading which has not begun
pub begun_other : (stage : Stage) (position : ℕ) → (stage ≡ ReadBegin → ⊥) → begun_at stage position ≡ stage
begun_other stage position other = grind arith
