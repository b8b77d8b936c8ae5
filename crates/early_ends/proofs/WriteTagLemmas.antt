-- A write, or a call whose fetch is behind it, keeps the tag that it has at the stage of one of its phases.
use Rattle.std.proofs.Common.{◌≡◌, ℕ, List, [], ◌∷◌, ◌++◌, Some, refl, sym, subst, ap, ◌∙◌, arith}
use Rattle.tag.specs.declared.tag.Tag.{Tag}
use Rattle.mail.specs.Phase.{Phase}
use Rattle.record.specs.declared.call.CallKind.{CallKind}
use Rattle.record.specs.declared.call.CallKind.TheVariants.{Write}
use Rattle.record.specs.declared.stage.Stage.{Stage}
use Rattle.record.specs.Journals.{stage_tag, tag_of}
use Rattle.record.specs.Legal.{first_stage, source_of}
use Rattle.record.specs.PhaseOrder.{begun_at, stage_after, stage_past}
use Rattle.record.specs.Records.{Call, Object}
use Rattle.record.proofs.BegunStageLemmas.{begun_tag}
use Rattle.record.proofs.Phases.PastFetchLemmas.{IsLateWith, IsOfWrite, late_of_write, late_past, late_stays}
use Rattle.record.proofs.Phases.PastFetchLemmas.{of_write_first, of_write_past}
use Rattle.early_ends.specs.Told.{HasPhase}

of_write_after : (value : List ℕ) (kind : CallKind) → kind ≡ Write value → (number : ℕ) (stage : Stage) (phases : List Phase) →
    IsOfWrite stage → IsOfWrite (stage_after kind number stage phases)
of_write_after value kind k number stage [] of = of
of_write_after value kind k number stage (phase ∷ phases) of =
    of_write_after value kind k number (stage_past kind number stage phase) phases (of_write_past value kind k number stage phase of)

late_unbegun : (stage : Stage) (position : ℕ) (tag : Tag) → IsLateWith tag (begun_at stage position) → IsLateWith tag stage
late_unbegun stage position tag late = grind arith

-- phases, and then more
stage_append : (kind : CallKind) (number : ℕ) (stage : Stage) (first second : List Phase) →
    stage_after kind number stage (first ++ second) ≡ stage_after kind number (stage_after kind number stage first) second
stage_append kind number stage [] second = refl
stage_append kind number stage (phase ∷ first) second = stage_append kind number (stage_past kind number stage phase) first second

module _ (object : Object) (index : ℕ) (call : Call) (stage : Stage) (phase : Phase) (made : HasPhase object index call stage phase)
  where
    abbrev first : Stage
    first = first_stage call.kind (source_of object index)

    -- the stage before the phase, where no first reading has begun yet
    abbrev there : Stage
    there = stage_after call.kind call.id first made.earlier

    then_late : (tag : Tag) → IsLateWith tag there → tag_of object index call ≡ Some tag
    then_late tag late =
        ap (λ phases. stage_tag (stage_after call.kind call.id first phases)) made.phases
        ∙ ap stage_tag (stage_append call.kind call.id first made.earlier (phase ∷ made.later))
        ∙ (late_stays call.kind call.id made.later (stage_past call.kind call.id there phase) tag
        (late_past call.kind call.id there phase tag late)).1

    -- a call whose fetch is behind it
    pub late_tag : (tag : Tag) → IsLateWith tag stage → tag_of object index call ≡ Some tag
    late_tag tag late = then_late tag (late_unbegun there phase.position tag (subst (IsLateWith tag) made.due_at late))

    -- a write
    pub write_tag : (value : List ℕ) → call.kind ≡ Write value → (tag : Tag) → stage_tag stage ≡ Some tag →
        tag_of object index call ≡ Some tag
    write_tag value k tag tagged =
        then_late tag (late_of_write there
        (of_write_after value call.kind k call.id first made.earlier (of_write_first value call.kind (source_of object index) k)) tag
        (sym (begun_tag there phase.position) ∙ ap stage_tag (sym made.due_at) ∙ tagged))
