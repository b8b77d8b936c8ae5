-- The numbers of tags are those of past steps.
use Rattle.std.proofs.Common.{◌≡◌, ℕ, suc, ◌<◌, ◌≤◌, List, rules}
use Rattle.std.proofs.Common.{Some, arith, le_trans, slice_get}
use Rattle.std.specs.List.{AllByRecursion}
use Rattle.tag.specs.declared.tag.Tag.{Tag}
use Rattle.mail.specs.Phase.{Phase}
use Rattle.record.specs.declared.call.CallKind.{CallKind}
use Rattle.record.specs.Records.{Object}
use Rattle.record.specs.declared.call.CallKind.TheVariants.{Read}
use Rattle.record.specs.PhaseOrder.{greatest_tag, stage_after}
use Rattle.record.specs.PhaseOrder.{tagged}
use Rattle.record.specs.Legal.{first_stage}
use Rattle.record.specs.Journals.{stage_tag}
use Rattle.record.specs.Fragments.{Code}
use Rattle.soundness.specs.Sound.{IsSound}
use Rattle.soundness.proofs.Values.KnownTagLemmas.{Known, TagsAre, opening_known, shown_known, tags_end, tags_first, tags_tag}
use Rattle.soundness.proofs.Values.SentValueLemmas.{known_past}
use Rattle.soundness.proofs.ListLemmas.{all_at, all_map}
use Rattle.soundness.proofs.Sound.Enough.QuorumPieceLemmas.{greatest_is}
use Rattle.soundness.proofs.Sound.ItemLemmas.{ReplyCoded}

-- a call whose phases show tags of the past has a tag whose number is at most now
pub tag_past : (step now : ℕ) → step < now → (kind : CallKind) (number from : ℕ) (phases : List Phase) →
    AllByRecursion (λ phase. (greatest_tag phase.replies).number ≤ step) phases →
    (tag : Tag) → stage_tag (stage_after kind number (first_stage kind from) phases) ≡ Some tag → tag.number ≤ now
tag_past step now less kind number from phases shown tag e =
    le_trans (tags_tag Found Own (stage_after kind number (first_stage kind from) phases) tag
    (tags_end Found Own (omega arith) (λ t h. omega arith) kind number (takes kind) phases (first_stage kind from) shown
    (tags_first Found Own kind from)) e) less
  where
    -- a tag that was found is past; a call's own is past or the next
    Found : Tag → Type 0
    Found t = t.number ≤ step

    Own : Tag → Type 0
    Own t = t.number ≤ suc step

    takes : (k : CallKind) (q l : ℕ) (t : Tag) → Found t → TagsAre Found Own (tagged k number q l t)
    takes Read q l t h = omega arith
    takes k q l t h = omega arith

-- a reply that is coded shows a tag of the past
pub shown_past : (fragment : Code) (object : Object) (step : ℕ) → IsSound fragment object step → (phase : Phase) →
    AllByRecursion (ReplyCoded fragment object phase) phase.replies →
    (greatest_tag phase.replies).number ≤ step
shown_past fragment object step sound phase coded =
    known_past fragment object step sound (greatest_tag phase.replies)
    (greatest_is (Known object) phase.replies (opening_known object)
    (all_map (λ reply c. shown_known fragment object phase.position reply.member phase.kind reply.reply.answer c) _ coded))

-- phases whose replies are coded lead a call to a tag whose number is at most now
pub coded_tag_past : (fragment : Code) (object : Object) (step now : ℕ) → step < now → IsSound fragment object step →
    (kind : CallKind) (number from : ℕ) (phases : List Phase) → ((place : ℕ) (phase : Phase) →
    slice_get phases place ≡ Some phase → AllByRecursion (ReplyCoded fragment object phase) phase.replies) → (tag : Tag) →
    stage_tag (stage_after kind number (first_stage kind from) phases) ≡ Some tag → tag.number ≤ now
coded_tag_past fragment object step now less sound kind number from phases coded tag e = search (rules, all_at, shown_past, tag_past)
