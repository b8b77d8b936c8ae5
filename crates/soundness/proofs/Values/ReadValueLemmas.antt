-- An answered read returns the journal's value of its tag, since its pieces are fragments of both.
use Rattle.std.proofs.Common.{nat_eq, ◌≡◌, ℕ, zero, suc, ◌<◌, ◌≤◌, false, List, [], ◌∷◌, length, Option}
use Rattle.std.proofs.Common.{Some, None, IsSome, is_some, refl, sym, subst, subst₂, ap, ◌∙◌, inl, inr, arith, slice_get}
use Rattle.std.proofs.lemmas.Option.{same_Some}
use Rattle.std.specs.List.{AllByRecursion, IsDistinct}
use Rattle.tag.specs.declared.tag.Tag.{Tag}
use Rattle.tag.specs.declared.limits.TheConstants.{MOST_MEMBERS}
use Rattle.layout.specs.Layout.{IsLawful}
use Rattle.mail.specs.Phase.{Phase, lacks_pieces}
use Rattle.record.specs.declared.call.CallKind.{CallKind}
use Rattle.record.specs.Records.{Call, Object, layout_at}
use Rattle.bank.specs.declared.kind.Kind.{Kind}
use Rattle.bank.specs.declared.kind.Kind.TheVariants.{Fetch}
use Rattle.record.specs.declared.call.CallKind.TheVariants.{Write}
use Rattle.record.specs.Knowledge.{IsTruePhase, IsTrueReply}
use Rattle.record.specs.declared.stage.Stage.{Stage}
use Rattle.record.specs.PhaseOrder.{passed, stage_after, IsCourse, begun_at, stage_past}
use Rattle.record.specs.Legal.{IsLegal, source_of, first_stage}
use Rattle.record.specs.Journals.{stage_tag, tag_of, IsJournaled, ReadsJournaled}
use Rattle.record.specs.Fragments.{Code, IsValue, AreValues, Determines, IsCoded, IfCoded, answer_tag}
use Rattle.record.specs.Fragments.{answer_piece, AreCoded, HasPiece, IsSettled, AreSettled}
use Rattle.soundness.proofs.Quorums.QuorumMeetingLemmas.{lawful_at}
use Rattle.soundness.proofs.Values.WrittenTagLemmas.{written_above, written_id}
use Rattle.soundness.proofs.ListLemmas.{all_weaker, all_get, all_map}
use Rattle.soundness.proofs.Sound.Enough.PieceCountLemmas.{pieces_not_lacking}
use Rattle.soundness.proofs.Sound.FetchOrderLemmas.{first_late}
use Rattle.record.proofs.Phases.PastFetchLemmas.{IsLateWith, fetch_due, late_stays}

-- the tag that was fetched with all its pieces is the call's
pub fetched_tag : (kind : CallKind) (number : ℕ) (phases : List Phase) (stage : Stage) → IsCourse kind number stage phases →
    (place : ℕ) (phase : Phase) (tag : Tag) → slice_get phases place ≡ Some phase → phase.kind ≡ Fetch tag →
    lacks_pieces phase ≡ false → stage_tag (stage_after kind number stage phases) ≡ Some tag
fetched_tag kind number (first ∷ []) stage course zero phase tag at e enough = by_end first.end refl
  where
    by_end : (o : Option ℕ) → first.end ≡ o → stage_tag (stage_after kind number stage (first ∷ [])) ≡ Some tag
    by_end None h =
        let asked : first.kind ≡ Fetch tag = ap (λ (p : Phase). p.kind) (same_Some first phase at) ∙ e in
        subst (λ o. stage_tag (passed kind number (begun_at stage first.position) o first.replies (lacks_pieces first)) ≡ Some tag) (sym h)
        (fetch_due (begun_at stage first.position) tag first.position (course.0 ∙ ap (λ (k : Kind). Some (k, first.position)) asked))
    by_end (Some end) h =
        subst (λ o. stage_tag (passed kind number (begun_at stage first.position) o first.replies (lacks_pieces first)) ≡ Some tag) (sym h)
        ((first_late kind number (begun_at stage first.position) first phase tag course.0 (same_Some first phase at) e enough).1)
fetched_tag kind number (first ∷ next ∷ later) stage course zero phase tag at e enough =
    (late_stays kind number (next ∷ later) (stage_past kind number stage first) tag
    (subst (λ o. IsLateWith tag (passed kind number (begun_at stage first.position) o first.replies (lacks_pieces first))) (sym course.1.1)
    (first_late kind number (begun_at stage first.position) first phase tag course.0 (same_Some first phase at) e enough))).1
fetched_tag kind number (first ∷ next ∷ later) stage course (suc place) phase tag at e enough =
    fetched_tag kind number (next ∷ later) (stage_past kind number stage first) course.2 place phase tag
    at e enough
fetched_tag kind number _ stage course _ phase tag at e enough = absurd (cc)

-- so is the tag of which a value was settled
pub settled_tag : (fragment : Code) (object : Object) → IsLegal object → (index : ℕ) (call : Call) →
    slice_get object.calls index ≡ Some call → (value : List ℕ) → (settled : IsSettled fragment object call value) →
    tag_of object index call ≡ Some settled.fetch.0
settled_tag fragment object legal index call at value settled =
    let c = legal.calls index call at in
    fetched_tag call.kind call.id call.phases (first_stage call.kind (source_of object index)) c.course settled.place settled.phase
    settled.fetch.0 settled.within settled.fetch.1
    (pieces_not_lacking fragment object settled.phase value
    (all_get (IsTruePhase object) call.phases settled.place settled.phase c.phases settled.within) settled.pieces)

-- the journal has one value for a tag
pub journal_unique : (object : Object) → IsLegal object → (tag : Tag) (v w : List ℕ) → IsJournaled object tag v →
    IsJournaled object tag w → v ≡ w
journal_unique object legal tag v w (inl a) (inl b) = a.1 ∙ sym b.1
journal_unique object legal tag v w (inl a) (inr b) =
    let n = written_above object legal tag w b in let o = ap (λ (t : Tag). t.number) a.0 in absurd (omega arith)
journal_unique object legal tag v w (inr a) (inl b) =
    let n = written_above object legal tag v a in let o = ap (λ (t : Tag). t.number) b.0 in absurd (omega arith)
journal_unique object legal tag v w (inr a) (inr b) =
    let n = written_id object legal tag v a in
    let m = written_id object legal tag w b in
    let place : a.index ≡ b.index = legal.ids a.index b.index a.call b.call a.at b.at (sym n ∙ m) in
    let one : a.call ≡ b.call = same_Some a.call b.call (sym a.at ∙ ap (λ i. slice_get object.calls i) place ∙ b.at) in
    let kinds : Write v ≡ Write w = sym a.kind ∙ ap (λ (c : Call). c.kind) one ∙ b.kind in
    cc

-- the journal's values are values
pub journal_bytes : (object : Object) → AreValues object → (tag : Tag) (value : List ℕ) →
    IsJournaled object tag value → IsValue value
journal_bytes object values tag value (inl empty) = subst IsValue (sym empty.1) (tt, omega arith)
journal_bytes object values tag value (inr written) = values.written written.index written.call value written.at written.kind

-- what a piece says of the journal's value and the settled one
record Agrees (fragment : Code) (object : Object) (k : ℕ) (tag : Tag) (value : List ℕ) (member : ℕ) : Type 0 where
  journal : List ℕ
  journaled : IsJournaled object tag journal
  lengths : length journal ≡ length value
  bytes : fragment journal k member ≡ fragment value k member
  below : member < 256

piece_agrees : (fragment : Code) (object : Object) → IsLegal object → AreCoded fragment object →
    (index place : ℕ) (call : Call) (phase : Phase) → slice_get object.calls index ≡ Some call →
    slice_get call.phases place ≡ Some phase → (tag : Tag) → phase.kind ≡ Fetch tag → (value : List ℕ) (member : ℕ) →
    HasPiece fragment object phase value member → Agrees fragment object (layout_at object phase.position).k tag value member
piece_agrees fragment object legal coded index place call phase at within tag kind value member has =
    let truth = all_get (IsTruePhase object) call.phases place phase (legal.calls index call at).phases within in
    let reply_is = all_get (IsTrueReply object phase) phase.replies has.place has.reply truth.replies has.within in
    let layout_is = lawful_at object phase.position legal.layouts truth.placed in
    let code = all_get (λ reply. IfCoded fragment object phase.position reply.member (answer_tag phase.kind reply.reply.answer)
    (answer_piece reply.reply.answer)) phase.replies has.place has.reply
    (coded.phases index place call phase at within) has.within in
    let code' : IsCoded fragment object phase.position has.reply.member tag (Some has.piece) =
    subst₂ (λ k a. IfCoded fragment object phase.position has.reply.member (answer_tag k a) (answer_piece a)) kind has.same_piece code in
    let fits = code'.fits has.piece refl in
    let same = has.same_member in
    record {
      journal = code'.value;
      journaled = code'.journaled;
      lengths = sym fits.len ∙ has.is_fragment.len;
      bytes = ap (λ i. fragment code'.value (layout_at object phase.position).k i) (sym same) ∙ sym fits.bytes ∙ has.is_fragment.bytes;
      below = (let a = reply_is.within in let b = layout_is.few in let m : MOST_MEMBERS ≡ 255 = refl in omega arith);
    }

pub settled_journaled : (fragment : Code) (object : Object) → Determines fragment → IsLegal object → AreValues object →
    AreCoded fragment object → (index : ℕ) (call : Call) → slice_get object.calls index ≡ Some call → (value : List ℕ) →
    IsValue value → (settled : IsSettled fragment object call value) → IsJournaled object settled.fetch.0 value
settled_journaled fragment object determines legal values coded index call at value bytes settled =
    go settled.pieces.members settled.pieces.distinct settled.pieces.enough
    (all_map (λ member has. piece_agrees fragment object legal coded index settled.place call settled.phase at settled.within tag
    settled.fetch.1 value member has) _ settled.pieces.pieces)
  where
    k : ℕ
    k = (layout_at object settled.phase.position).k

    tag : Tag
    tag = settled.fetch.0

    lawful : IsLawful (layout_at object settled.phase.position)
    lawful =
        let truth = all_get (IsTruePhase object) call.phases settled.place settled.phase
        (legal.calls index call at).phases settled.within in
        lawful_at object settled.phase.position legal.layouts truth.placed

    few : k ≤ MOST_MEMBERS
    few = let a = lawful.enough in let b = lawful.few in omega arith

    go : (members : List ℕ) → IsDistinct nat_eq members → k ≤ length members →
        AllByRecursion (Agrees fragment object k tag value) members → IsJournaled object tag value
    go [] distinct enough all = absurd (let some = lawful.some in omega arith)
    go (member ∷ members) distinct enough all =
        let first = all.0 in
        let one : (i : ℕ) → (a : Agrees fragment object k tag value i) → a.journal ≡ first.journal =
        λ i a. journal_unique object legal tag a.journal first.journal a.journaled first.journaled in
        let same = determines k (member ∷ members) first.journal value lawful.some few enough distinct
        (all_weaker (Agrees fragment object k tag value) (λ i. i < 256) (λ i a. a.below) (member ∷ members) all)
        (journal_bytes object values tag first.journal first.journaled) bytes first.lengths
        (all_weaker (Agrees fragment object k tag value) (λ i. fragment first.journal k i ≡ fragment value k i)
        (λ i a. ap (λ v. fragment v k i) (sym (one i a)) ∙ a.bytes) (member ∷ members) all) in
        subst (λ v. IsJournaled object tag v) same first.journaled

some_value : (o : Option (List ℕ)) → IsSome o → (value : List ℕ) × (o ≡ Some value)
some_value o h = grind arith

pub reads_journaled : (fragment : Code) (object : Object) → Determines fragment → IsLegal object → AreValues object →
    AreCoded fragment object → AreSettled fragment object → ReadsJournaled object
reads_journaled fragment object determines legal values coded settled = λ index call step at kind answered.
    let value = some_value call.settled (settled.before_answer index call at kind (ap is_some answered)) in
    let has = settled.settled index call value.0 at value.1 in (
      value.0,
      has.fetch.0,
      value.1,
      settled_tag fragment object legal index call at value.0 has,
      settled_journaled fragment object determines legal values coded index call at value.0
          (values.settled index call value.0 at value.1) has,
    )
