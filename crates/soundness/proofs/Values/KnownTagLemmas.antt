-- The tags that a call shows are known: its own, or those of banks.
use Rattle.std.proofs.Common.{◌≡◌, ℕ, zero, suc, List, [], ◌∷◌}
use Rattle.std.proofs.Common.{Some, ◌<◌, refl, sym, subst, ◌∙◌, inl, inr, arith, slice_get}
use Rattle.std.proofs.lemmas.Option.{same_Some}
use Rattle.std.specs.List.{AllByRecursion}
use Rattle.tag.specs.declared.tag.Tag.{Tag}
use Rattle.tag.specs.Tag.{opening_tag}
use Rattle.bank.specs.declared.kind.Kind.{Kind}
use Rattle.bank.specs.declared.reply.Answer.{Answer}
use Rattle.mail.specs.Phase.{Phase}
use Rattle.record.specs.declared.call.CallKind.{CallKind}
use Rattle.record.specs.Records.{Call, Object}
use Rattle.record.specs.declared.call.CallKind.TheVariants.{Read, Write, Move}
use Rattle.record.specs.PhaseOrder.{shown_tag, greatest_tag, due, stage_after, IsCourse, stage_past}
use Rattle.record.specs.PhaseOrder.{begun_at}
use Rattle.record.specs.PhaseOrder.{tagged}
use Rattle.record.specs.declared.stage.Stage.{Stage}
use Rattle.record.specs.declared.stage.Stage.TheVariants.{QueryFrom, FetchAt, PreWriteAt}
use Rattle.record.specs.declared.stage.Stage.TheVariants.{FinalizeAt, AgainNext, AgainSpread}
use Rattle.record.specs.declared.stage.Stage.TheVariants.{MoveFetch, MovePreWrite, MoveFinalize, MoveFinal, Ended, Moved}
use Rattle.record.specs.Legal.{first_stage, source_of, stage_of}
use Rattle.record.specs.Journals.{stage_tag, tag_of, IsJournaled}
use Rattle.record.specs.Fragments.{Code, IfCoded, answer_tag, answer_piece}
use Rattle.soundness.specs.Sound.{IsSound}
use Rattle.bank.specs.declared.reply.Answer.TheVariants as answer
use Rattle.soundness.proofs.ListLemmas.{all_at, all_map}
use Rattle.soundness.proofs.Sound.Enough.QuorumPieceLemmas.{greatest_is}
use Rattle.record.proofs.BegunStageLemmas.{begun_has}

-- some value of the tag is in the journal
abbrev pub Known : Object → Tag → Type 0
Known object tag = (value : List ℕ) × IsJournaled object tag value

-- what is so of the tag at a stage: P of one that was found, and Q of the call's own
abbrev pub TagsAre : (P Q : Tag → Type 0) → Stage → Type 0
TagsAre P Q (QueryFrom p l t q) = P t
TagsAre P Q (FetchAt q l t) = Q t
TagsAre P Q (PreWriteAt l t) = Q t
TagsAre P Q (FinalizeAt l t) = Q t
TagsAre P Q (AgainNext l p t) = Q t
TagsAre P Q (AgainSpread l p t s) = Q t
TagsAre P Q (MoveFetch p t) = Q t
TagsAre P Q (MovePreWrite p t) = Q t
TagsAre P Q (MoveFinalize p t) = Q t
TagsAre P Q (MoveFinal p t) = Q t
TagsAre P Q (Ended l t) = Q t
TagsAre P Q (Moved p t) = Q t
TagsAre P Q _ = Unit {0}

abbrev pub TagIs : (Tag → Type 0) → Stage → Type 0
TagIs P stage = TagsAre P P stage

pub opening_known : (object : Object) → Known object opening_tag
opening_known object = ([], inl (refl, refl))

pub shown_known : (fragment : Code) (object : Object) (position member : ℕ) (kind : Kind) (answer : Answer) →
    IfCoded fragment object position member (answer_tag kind answer) (answer_piece answer) →
    Known object (shown_tag answer)
shown_known fragment object position member kind answer coded = grind arith

-- P holds of the opening tag and of each tag that a call finds, and Q holds of the tag that the call takes from these
module _ (P Q : Tag → Type 0) (opening : P opening_tag) (more : (t : Tag) → P t → Q t) (kind : CallKind) (number : ℕ)
    (takes : (q l : ℕ) (t : Tag) → P t → TagsAre P Q (tagged kind number q l t)) where
  tags_past : (stage : Stage) (phase : Phase) → P (greatest_tag phase.replies) → TagsAre P Q stage →
      TagsAre P Q (stage_past kind number stage phase)
  tags_past stage phase shown own = grind arith

  pub tags_end : (phases : List Phase) (stage : Stage) → AllByRecursion (λ phase. P (greatest_tag phase.replies)) phases →
      TagsAre P Q stage → TagsAre P Q (stage_after kind number stage phases)
  tags_end [] stage shown own = own
  tags_end (phase ∷ phases) stage shown own =
      tags_end phases (stage_past kind number stage phase) shown.1 (tags_past stage phase shown.0 own)

  -- and at the stage where a phase was due
  pub tags_at : (phases : List Phase) (stage : Stage) → IsCourse kind number stage phases → (place : ℕ) (phase : Phase) →
      slice_get phases place ≡ Some phase →
      ((before : ℕ) (other : Phase) → before < place → slice_get phases before ≡ Some other → P (greatest_tag other.replies)) →
      TagsAre P Q stage → (there : Stage) × (due there ≡ Some (phase.kind, phase.position)) × TagsAre P Q there
  tags_at [] stage course place phase at shown own = absurd (cc)
  tags_at (first ∷ phases) stage course zero phase at shown own =
      let there = begun_at stage first.position in (
        there,
        subst (λ (p : Phase). due there ≡ Some (p.kind, p.position)) (same_Some first phase at) course.0,
        begun_has (λ s. TagsAre P Q s) stage first.position (λ begins. tt) own,
      )
  tags_at (first ∷ phases) stage course (suc place) phase at shown own =
      tags_at phases (stage_past kind number stage first) course.2 place phase at
      (λ before other less e. shown (suc before) other (omega arith) e)
      (tags_past stage first (shown 0 first (omega arith) refl) own)

pub tags_first : (P Q : Tag → Type 0) (kind : CallKind) (from : ℕ) → TagsAre P Q (first_stage kind from)
tags_first P Q kind from = grind arith

pub tags_tag : (P Q : Tag → Type 0) (stage : Stage) (tag : Tag) → TagsAre P Q stage → stage_tag stage ≡ Some tag → Q tag
tags_tag P Q stage tag own e = grind arith

-- A read or a move takes a tag that was found

abbrev pub IsNoWrite : CallKind → Type 0
IsNoWrite kind = (value : List ℕ) → kind ≡ Write value → ⊥

known_tagged : (P : Tag → Type 0) (kind : CallKind) (number : ℕ) → IsNoWrite kind → (q l : ℕ) (t : Tag) → P t →
    TagIs P (tagged kind number q l t)
known_tagged P kind number plain q l t known = grind arith

pub known_at : (P : Tag → Type 0) → P opening_tag → (kind : CallKind) (number : ℕ) (phases : List Phase) (stage : Stage) →
    IsNoWrite kind → IsCourse kind number stage phases → (place : ℕ) (phase : Phase) → slice_get phases place ≡ Some phase →
    ((before : ℕ) (other : Phase) → before < place → slice_get phases before ≡ Some other → P (greatest_tag other.replies)) →
    TagIs P stage → (there : Stage) × (due there ≡ Some (phase.kind, phase.position)) × TagIs P there
known_at P opening kind number phases stage plain = grind (arith, known_tagged, tags_at)

pub known_tag : (P : Tag → Type 0) (stage : Stage) (tag : Tag) → TagIs P stage → stage_tag stage ≡ Some tag → P tag
known_tag P stage tag known e = tags_tag P P stage tag known e

pub known_first : (P : Tag → Type 0) (kind : CallKind) (from : ℕ) → TagIs P (first_stage kind from)
known_first P kind from = tags_first P P kind from

-- what the phases of a call show is in the journal
pub phase_known : (fragment : Code) (object : Object) (step : ℕ) → IsSound fragment object step → (index : ℕ) (call : Call) →
    slice_get object.calls index ≡ Some call → (place : ℕ) (phase : Phase) → slice_get call.phases place ≡ Some phase →
    Known object (greatest_tag phase.replies)
phase_known fragment object step sound index call at place phase within =
    greatest_is (Known object) phase.replies (opening_known object)
    (all_map (λ reply c. shown_known fragment object phase.position reply.member phase.kind reply.reply.answer c) _
    (sound.coded.phases index place call phase at within))

-- a call's tag is in the journal
pub call_known : (fragment : Code) (object : Object) (step : ℕ) → IsSound fragment object step → (index : ℕ) (call : Call) →
    slice_get object.calls index ≡ Some call → (tag : Tag) →
    tag_of object index call ≡ Some tag → Known object tag
call_known fragment object step sound index call at tag e = go call.kind refl
  where
    shown : AllByRecursion (λ phase. Known object (greatest_tag phase.replies)) call.phases
    shown = all_at call.phases
        (λ place phase within. phase_known fragment object step sound index call at place phase within)

    other : IsNoWrite call.kind → Known object tag
    other plain = known_tag (Known object) (stage_of object index call) tag
        (tags_end (Known object) (Known object) (opening_known object) (λ t p. p) call.kind call.id
        (known_tagged (Known object) call.kind call.id plain) call.phases (first_stage call.kind (source_of object index)) shown
        (known_first (Known object) call.kind (source_of object index))) e

    go : (kind : CallKind) → call.kind ≡ kind → Known object tag
    go (Write value) k = (value, inr (record { index = index; call = call; at = at; kind = k; tagged = e }))
    go Read k = other (λ value w. let clash : Read ≡ Write value = sym k ∙ w in cc)
    go Move k = other (λ value w. let clash : Move ≡ Write value = sym k ∙ w in cc)
