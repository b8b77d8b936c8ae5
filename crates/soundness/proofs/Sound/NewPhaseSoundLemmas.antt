-- Beginning the phase that is due, and asking again, keep a record sound.
use Rattle.std.proofs.Common.{◌≡◌, ℕ, zero, suc, ◌<◌, ◌⊎◌, List, [], ◌∷◌, ◌++◌, length}
use Rattle.std.proofs.Common.{Some, None, IsSome, true, refl, sym, subst, ap, ◌∙◌, inl, inr, arith, slice_get}
use Rattle.std.proofs.lemmas.Option.{same_Some, slice_get_within}
use Rattle.piece.specs.declared.piece.Piece.{Piece}
use Rattle.bank.specs.declared.kind.Kind.{Kind}
use Rattle.mail.specs.declared.message.Message.{Message}
use Rattle.mail.specs.Phase.{Phase, lacks_pieces}
use Rattle.record.specs.declared.call.CallKind.{CallKind}
use Rattle.record.specs.Records.{Call, Object, layout_at, base_at, base_of}
use Rattle.record.specs.declared.stage.Stage.{Stage}
use Rattle.record.specs.PhaseOrder.{passed, stage_after, EndsBefore, begun_at, stage_past}
use Rattle.record.specs.Legal.{first_stage, source_of, stage_of, due_of}
use Rattle.record.specs.Journals.{stage_tag, tag_of}
use Rattle.record.specs.Fragments.{Code, Determines, IsFetch, IsSettled, request_tag, request_piece}
use Rattle.record.specs.Sending.{request_to, requests}
use Rattle.record.specs.Steps.{new_phase, with_phase}
use Rattle.soundness.specs.Sound.{IsSound}
use Rattle.soundness.proofs.BaseLemmas.{base_push}
use Rattle.soundness.proofs.Values.SentValueLemmas.{Sends, request_coded}
use Rattle.soundness.proofs.ListLemmas.{get_push, set_here}
use Rattle.soundness.proofs.Sound.LastPhaseLemmas.{course_push, numbered_push, begins_push}
use Rattle.soundness.proofs.Sound.CallStepSoundLemmas.{TagStays, WithCall, source_stays, call_grown, old_call, changed_sound}
use Rattle.soundness.proofs.Sound.ChangedCallLemmas.{Changed}
use Rattle.soundness.proofs.Sound.DuePositionLemmas.{due_there}
use Rattle.soundness.proofs.Sound.FetchOrderLemmas.{FetchDue, late_due, course_late}
use Rattle.soundness.proofs.Sound.GrowthLemmas.{Grows, if_coded_grows}
use Rattle.soundness.proofs.Sound.GrownItemLemmas.{new_phase_sound, mail_grows}
use Rattle.soundness.proofs.Sound.ItemLemmas.{PhaseSound, CallSound, past_of, call_of, base_later, open_by}
use Rattle.soundness.proofs.Sound.MailSoundLemmas.{request_sound, all_requests, all_append}
use Rattle.soundness.proofs.Sound.Enough.PieceCountLemmas.{pieces_not_lacking}
use Rattle.soundness.proofs.Sound.WantCaseLemmas.{LastAt, last_at}
use Rattle.soundness.proofs.Sound.WantPreconditionLemmas.{MayGoOn, ended_before}
use Rattle.record.proofs.BegunStageLemmas.{begun_tag, begun_due, begun_base}
use Rattle.record.proofs.Phases.PastFetchLemmas.{late_begun}

pub get_pushed : {A : Type 0} (xs : List A) (y x : A) (i : ℕ) → slice_get (xs ++ y ∷ []) i ≡ Some x →
    (slice_get xs i ≡ Some x) ⊎ ((i ≡ length xs) × (y ≡ x))
get_pushed [] y x zero e = inr (refl, same_Some y x e)
get_pushed [] y x (suc i) e = absurd (cc)
get_pushed (z ∷ zs) y x zero e = inl e
get_pushed (z ∷ zs) y x (suc i) e = go (get_pushed zs y x i e)
  where
    go : (slice_get zs i ≡ Some x) ⊎ ((i ≡ length zs) × (y ≡ x)) →
        (slice_get zs i ≡ Some x) ⊎ ((suc i ≡ suc (length zs)) × (y ≡ x))
    go (inl there) = inl there
    go (inr here) = inr (ap suc here.0, here.1)

pub get_last : {A : Type 0} (xs : List A) (y : A) → slice_get (xs ++ y ∷ []) (length xs) ≡ Some y
get_last [] y = refl
get_last (x ∷ xs) y = get_last xs y

stage_push : (kind : CallKind) (number : ℕ) (phases : List Phase) (stage : Stage) (next : Phase) → next.end ≡ None →
    stage_after kind number stage (phases ++ next ∷ []) ≡ begun_at (stage_after kind number stage phases) next.position
stage_push kind number [] stage next none =
    ap (λ o. passed kind number (begun_at stage next.position) o next.replies (lacks_pieces next)) none
stage_push kind number (phase ∷ phases) stage next none =
    stage_push kind number phases (stage_past kind number stage phase) next none

settled_pushed : (fragment : Code) (object : Object) (call : Call) (next : Phase) (value : List ℕ) → (IsFetch next.kind → ⊥) →
    IsSettled fragment object call value →
    IsSettled fragment object (record call { phases = call.phases ++ next ∷ [] }) value
settled_pushed fragment object call next value other s = grind (arith, get_push, get_pushed)

-- the phase that is due begins
pub begun_sound : {fragment : Code} {object : Object} {step now : ℕ} → Determines fragment → IsSound fragment object step → step < now →
    (index : ℕ) (call : Call) → slice_get object.calls index ≡ Some call → (kind : Kind) (position : ℕ) (piece : ℕ → Piece) →
    MayGoOn call → due_of object index call ≡ Some (kind, position) → Sends fragment (layout_at object position) call kind piece →
    IsSound fragment (with_phase object index call kind position now piece) now
begun_sound {fragment = fragment} {object = object} {step = step} {now = now} determines sound less index call at kind position piece
    ready e sends =
    changed_sound sound less index call new mail at changed stays (record {
      numbered = numbered_push call.id 1 call.phases next c.numbered refl (omega arith);
      begins = begins_push call.phases next call.called c.begins;
      course = rw source (course_push call.kind call.id call.phases first next c.course ends
          (begun_due (stage_of object index call) (base_of object) kind position e));
      from_base = rw source (base_push (base_at object) call.kind call.id call.phases first next c.from_base
          (λ none. begun_base (stage_of object index call) (base_of object) kind position none e ∙ sym (base_later sound now less)));
      answer = λ step e. absurd (let n = ready.open_call in cc);
      phases = λ place phase within. phases place phase (get_pushed call.phases next phase place within);
      settled = λ value s. settled_pushed fragment object' call next value (once value s) (was.settled value s);
      before_next = λ place phase after within fetch then. before place phase after (get_pushed call.phases next phase place within)
          (get_pushed call.phases next after (suc place) then) fetch;
      before_answer = c.before_answer;
      written = c.written;
      values = c.values;
      called = was.called;
      answered = was.answered;
      tag = λ tag t. was.tag tag (sym (same_tag object') ∙ t);
    })
    (all_append _ object.mail asked (mail_grows sound less grown)
    (all_requests _ call.id (suc (length call.phases)) kind position piece (layout_at object position).members 0
    (length (layout_at object position).members) (omega arith)
    (λ member below. request_sound index next piece member (set_here object.calls index call new at) (get_last call.phases next) refl refl
    below (if_coded_grows grown fragment position member refl (request_tag (request_to kind (piece member)))
    (request_piece (request_to kind (piece member)))
    (request_coded fragment object step determines sound index call at kind position piece (begun_at (stage_of object index call)
    (base_of object)) (begun_tag (stage_of object index call) (base_of object)) e sends member)))))
  where
    next : Phase
    next = new_phase call.id (suc (length call.phases)) kind position (layout_at object position) now

    new : Call
    new = record call { phases = call.phases ++ next ∷ [] }

    asked : List Message
    asked = requests call.id (suc (length call.phases)) kind position (layout_at object position).members 0 piece

    mail : List Message
    mail = object.mail ++ asked

    object' : Object
    object' = WithCall object mail index new

    c : CallSound fragment object step index call
    c = call_of sound index call at

    first : Stage
    first = first_stage call.kind (source_of object index)

    source : source_of object' index ≡ source_of object index
    source = source_stays object mail index call new at refl index

    ends : EndsBefore call.phases now
    ends = ended_before call ready.phase ready.end step now ready.current ready.ended (past_of sound index call at) less

    placed : position < length object.layouts
    placed = due_there object sound.legal sound.shape index call at kind position e

    -- the new phase leaves the tag as it is
    same_tag : (o : Object) → tag_of o index new ≡ tag_of o index call
    same_tag o =
        ap stage_tag (stage_push call.kind call.id call.phases (first_stage call.kind (source_of o index)) next refl)
        ∙ begun_tag (stage_of o index call) position

    changed : Changed call new
    changed = record {
      same_id = refl;
      same_kind = refl;
      same_called = refl;
      same_answer = λ step e. e;
      same_phases = λ place phase e. (phase, get_push call.phases next phase place e, refl, refl, refl);
    }

    stays : TagStays object index call new
    stays = λ value k tag t. same_tag object ∙ t

    grown : Grows now object object'
    grown = call_grown sound less index call new mail at changed stays

    was : CallSound fragment object' now index call
    was = old_call sound less index call new mail at changed stays

    phases : (place : ℕ) (phase : Phase) →
        (slice_get call.phases place ≡ Some phase) ⊎ ((place ≡ length call.phases) × (next ≡ phase)) →
        PhaseSound fragment object' now phase
    phases place phase (inl there) = was.phases place phase there
    phases place phase (inr here) = subst (PhaseSound fragment object' now) here.1
        (new_phase_sound placed (λ member below. open_by sound now position member less placed below))

    once : (value : List ℕ) → call.settled ≡ Some value → IsFetch kind → ⊥
    once value s fetch =
        let has = c.settled value s in
        late_due (begun_at (stage_of object index call) (base_of object))
        ((late_begun (stage_of object index call) (base_of object) has.fetch.0
        (course_late call.kind call.id call.phases first c.course now ends has.place has.phase has.fetch.0 has.within has.fetch.1
        (pieces_not_lacking fragment object has.phase value (c.phases has.place has.phase has.within).truth has.pieces))).0)
        (subst FetchDue (sym e) fetch)

    there : LastAt call.phases ready.phase
    there = last_at call.phases ready.phase ready.current

    before : (place : ℕ) (phase after : Phase) →
        (slice_get call.phases place ≡ Some phase) ⊎ ((place ≡ length call.phases) × (next ≡ phase)) →
        (slice_get call.phases (suc place) ≡ Some after) ⊎ ((suc place ≡ length call.phases) × (next ≡ after)) →
        IsFetch phase.kind → IsSome call.settled ⊎ (lacks_pieces phase ≡ true)
    before place phase after (inl a) (inl b) fetch = c.before_next place phase after a fetch b
    before place phase after (inl a) (inr b) fetch =
        let last = there.last in
        let here : place ≡ there.place = (let c = b.0 in omega arith) in
        let same : phase ≡ ready.phase = same_Some phase ready.phase
        (sym a ∙ ap (λ i. slice_get call.phases i) here ∙ there.within) in
        rw same (ready.settled (rw same at fetch))
    before place phase after (inr a) (inl b) fetch =
        absurd (let c = a.0 in let w = slice_get_within call.phases (suc place) after b in omega arith)
    before place phase after (inr a) (inr b) fetch = absurd (let c = a.0 in let d = b.0 in omega arith)
