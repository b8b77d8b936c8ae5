-- The tag that a phase sends is in the journal.
use Rattle.std.proofs.Common.{◌≡◌, ℕ, zero, suc, List, [], ◌∷◌, Some, refl, sym, ap, ◌∙◌, inr, slice_get, rules}
use Rattle.std.proofs.lemmas.Option.{same_Some}
use Rattle.tag.specs.declared.tag.Tag.{Tag}
use Rattle.mail.specs.Phase.{Phase}
use Rattle.record.specs.declared.call.CallKind.{CallKind}
use Rattle.record.specs.declared.call.CallKind.TheVariants.{Read, Write, Move}
use Rattle.record.specs.declared.stage.Stage.{Stage}
use Rattle.record.specs.Records.{Call, Object}
use Rattle.record.specs.PhaseOrder.{stage_after, IsCourse, begun_at, stage_past}
use Rattle.record.specs.Legal.{first_stage, source_of}
use Rattle.record.specs.Journals.{stage_tag, tag_of}
use Rattle.record.specs.Fragments.{Code, kind_tag}
use Rattle.soundness.specs.Sound.{IsSound}
use Rattle.soundness.proofs.Values.KnownTagLemmas.{Known, IsNoWrite, opening_known, phase_known, known_at, known_first, known_tag}
use Rattle.soundness.proofs.Values.SentValueLemmas.{due_tag}
use Rattle.record.proofs.BegunStageLemmas.{begun_tag}
use Rattle.record.proofs.Phases.PastFetchLemmas.{IsOfWrite, late_of_write, late_stays, of_write_past, of_write_first}

-- a tag that a write sends was due where the write had this tag, which stays
pub sent_tag : (value : List ℕ) (kind : CallKind) → kind ≡ Write value → (number : ℕ) (phases : List Phase) (stage : Stage) →
    IsOfWrite stage → IsCourse kind number stage phases → (place : ℕ) (phase : Phase) (tag : Tag) →
    slice_get phases place ≡ Some phase → kind_tag phase.kind ≡ Some tag → stage_tag (stage_after kind number stage phases) ≡ Some tag
sent_tag value kind k number [] stage of course place phase tag at e = absurd (cc)
sent_tag value kind k number (first ∷ phases) stage of course zero phase tag at e =
    let same : kind_tag first.kind ≡ Some tag = ap (λ (p : Phase). kind_tag p.kind) (same_Some first phase at) ∙ e in
    (late_stays kind number (first ∷ phases) stage tag
    (late_of_write stage of tag (sym (begun_tag stage first.position)
    ∙ due_tag (begun_at stage first.position) first.kind first.position tag course.0 same))).1
sent_tag value kind k number (first ∷ phases) stage of course (suc place) phase tag at e =
    sent_tag value kind k number phases (stage_past kind number stage first)
    (of_write_past value kind k number stage first of) course.2 place phase tag at e

-- the tag that a phase of a write sends is the write's
pub sent_by_write : (fragment : Code) (object : Object) (step : ℕ) → IsSound fragment object step →
    (index place : ℕ) (call : Call) (phase : Phase) (tag : Tag) → slice_get object.calls index ≡ Some call →
    slice_get call.phases place ≡ Some phase → kind_tag phase.kind ≡ Some tag → (value : List ℕ) → call.kind ≡ Write value →
    tag_of object index call ≡ Some tag
sent_by_write fragment object step sound index place call phase tag at within e value k = search (rules, of_write_first, sent_tag)

pub sent_known : (fragment : Code) (object : Object) (step : ℕ) → IsSound fragment object step →
    (index place : ℕ) (call : Call) (phase : Phase) (tag : Tag) → slice_get object.calls index ≡ Some call →
    slice_get call.phases place ≡ Some phase → kind_tag phase.kind ≡ Some tag → Known object tag
sent_known fragment object step sound index place call phase tag at within e = go call.kind refl
  where
    other : IsNoWrite call.kind → Known object tag
    other plain =
        let there = known_at (Known object) (opening_known object) call.kind call.id call.phases
        (first_stage call.kind (source_of object index)) plain (sound.legal.calls index call at).course place phase within
        (λ before p less w. phase_known fragment object step sound index call at before p w)
        (known_first (Known object) call.kind (source_of object index)) in
        known_tag (Known object) there.0 tag there.2 (due_tag there.0 phase.kind phase.position tag there.1 e)

    go : (kind : CallKind) → call.kind ≡ kind → Known object tag
    go (Write value) k = (
      value,
      inr (record {
        index = index;
        call = call;
        at = at;
        kind = k;
        tagged = sent_by_write fragment object step sound index place call phase tag at within e value k;
      }),
    )
    go Read k = other (λ value w. let clash : Read ≡ Write value = sym k ∙ w in cc)
    go Move k = other (λ value w. let clash : Move ≡ Write value = sym k ∙ w in cc)
