-- The contracts that docs/trusted.md lists do not depend on this file; other contracts and proofs do.
-- The table of stages and the shape of whole calls agree.
use Rattle.std.specs.Prelude.{◌≡◌, ◌↔◌, ℕ, List, [], ◌∷◌, Some, None, IsSome, slice_get}
use Rattle.tag.specs.declared.tag.Tag.{Tag}
use Rattle.mail.specs.Phase.{Phase}
use Rattle.record.specs.declared.call.CallKind.{CallKind}
use Rattle.record.specs.declared.stage.Stage.{Stage}
use Rattle.record.specs.PhaseOrder.{due, stage_after, IsCourse, BeginAtBase, IsEndedBefore}
use Rattle.record.specs.Records.{Call, Object, base_at}
use Rattle.record.specs.Legal.{first_stage, source_of, IsLegal}
use Rattle.record.specs.Journals.{stage_tag, tag_of}
use Rattle.record.specs.Grammar.{Asks, IsSentence}

-- each phase is complete, and ended before the next one began
abbrev pub AreInTurn : List Phase → Type 0
AreInTurn [] = Unit {0}
AreInTurn (phase ∷ []) = IsSome phase.end
AreInTurn (phase ∷ next ∷ later) = IsEndedBefore phase (next ∷ later) × AreInTurn (next ∷ later)

-- from this stage on the phases are those that were due, up to a stage where none is due and the call has this tag
pub record IsFinished (kind : CallKind) (number : ℕ) (stage : Stage) (phases : List Phase) (tag : Tag) : Type 0 where
  pub course : IsCourse kind number stage phases
  pub none_due : due (stage_after kind number stage phases) ≡ None
  pub tagged : stage_tag (stage_after kind number stage phases) ≡ Some tag

-- a law: the finished calls are exactly those with the phases of a whole call, each ended before the next one began
abbrev pub FinishedAreWhole : Type 0
FinishedAreWhole =
    (kind : CallKind) (number from : ℕ) (phases : List Phase) (tag : Tag) →
    IsFinished kind number (first_stage kind from) phases tag
    ↔ (AreInTurn phases × IsSentence kind number from phases tag)

-- the answered call has a tag and the phases of a whole call, and its first readings began at the base
pub record IsAnsweredWhole (object : Object) (index : ℕ) (call : Call) : Type 0 where
  pub tag : Tag
  pub tagged : tag_of object index call ≡ Some tag
  pub in_turn : AreInTurn call.phases
  pub whole : IsSentence call.kind call.id (source_of object index) call.phases tag
  pub from_base : BeginAtBase (base_at object) call.kind call.id (first_stage call.kind (source_of object index))
      call.phases

-- a law: each answered call of a legal record has the phases of a whole call
abbrev pub AnsweredAreWhole : Type 0
AnsweredAreWhole =
    (object : Object) (index : ℕ) (call : Call) (step : ℕ) → IsLegal object →
    slice_get object.calls index ≡ Some call → call.answered ≡ Some step →
    IsAnsweredWhole object index call

-- each phase but the last ended before the next one began
abbrev pub AreBegun : List Phase → Type 0
AreBegun [] = Unit {0}
AreBegun (phase ∷ later) = IsEndedBefore phase later × AreBegun later

-- the two phases need the same number of pieces and have the same replies
abbrev pub SameReplies : Phase → Phase → Type 0
SameReplies phase other = (other.replies ≡ phase.replies) × (other.needed ≡ phase.needed)

-- the others begin with these phases: each asks the same and, if it is complete, has the same need and replies
abbrev pub Begin : List Phase → List Phase → Type 0
Begin [] others = Unit {0}
Begin (phase ∷ later) [] = ⊥
Begin (phase ∷ later) (other ∷ others) =
    Asks other phase.kind phase.position × (IsSome phase.end → SameReplies phase other) × Begin later others

-- the phases, each ended before the next began, are the beginning of the phases of a whole call
pub record IsBeginning (kind : CallKind) (number from : ℕ) (phases : List Phase) : Type 0 where
  pub in_turn : AreBegun phases
  pub whole : List Phase
  pub tag : Tag
  pub is_whole : IsSentence kind number from whole tag
  pub begin : Begin phases whole

-- a law: the phases of a call are those that were due exactly if they are the beginning of a whole call's phases
abbrev pub CoursesAreBeginnings : Type 0
CoursesAreBeginnings =
    (kind : CallKind) (number from : ℕ) (phases : List Phase) →
    IsCourse kind number (first_stage kind from) phases ↔ IsBeginning kind number from phases
