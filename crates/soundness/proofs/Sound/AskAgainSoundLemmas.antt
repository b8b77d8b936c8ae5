-- The current phase of a call asks again, and the record stays sound.
use Rattle.std.proofs.Common.{◌≡◌, ℕ, ◌<◌, List, [], ◌∷◌, ◌++◌}
use Rattle.std.proofs.Common.{length, Some, None, refl, sym, subst, ap, ◌∙◌, arith, slice_get}
use Rattle.std.proofs.lemmas.Option.{same_Some}
use Rattle.piece.specs.declared.piece.Piece.{Piece}
use Rattle.mail.specs.declared.message.Message.{Message}
use Rattle.mail.specs.Phase.{Phase, members_of, lacks_pieces}
use Rattle.record.specs.declared.call.CallKind.{CallKind}
use Rattle.record.specs.Records.{Call, Object, layout_at}
use Rattle.record.specs.declared.stage.Stage.{Stage}
use Rattle.record.specs.PhaseOrder.{due, passed, stage_after, IsCourse, begun_at, stage_past}
use Rattle.record.specs.Legal.{first_stage, source_of, stage_of}
use Rattle.record.specs.Fragments.{Code, Determines}
use Rattle.soundness.specs.Sound.{IsSound}
use Rattle.record.specs.Sending.{requests, missing, sent_pieces}
use Rattle.record.specs.Steps.{asked_again}
use Rattle.record.specs.Wants.{current_phase}
use Rattle.soundness.proofs.Values.SentValueLemmas.{Sends, request_coded}
use Rattle.soundness.proofs.Sound.MailSoundLemmas.{mailed_sound, request_message, request_sound, all_requests, all_append, all_missing}
use Rattle.soundness.proofs.Sound.ItemLemmas.{CallSound, MessageSound, call_of, mail_of}
use Rattle.soundness.proofs.Sound.TakenReplyLemmas.{numbered_at}
use Rattle.soundness.proofs.Sound.WantCaseLemmas.{LastAt, last_at}

-- the open current phase is due
current_due : (kind : CallKind) (number : ℕ) (phases : List Phase) (stage : Stage) (phase : Phase) →
    IsCourse kind number stage phases → current_phase phases ≡ Some phase → phase.end ≡ None →
    due (stage_after kind number stage phases) ≡ Some (phase.kind, phase.position)
current_due kind number [] stage phase course current none = absurd (cc)
current_due kind number (first ∷ []) stage phase course current none =
    let same = same_Some first phase current in
    let end_is : first.end ≡ None = ap (λ (p : Phase). p.end) same ∙ none in
    subst (λ o. due (passed kind number (begun_at stage first.position) o first.replies (lacks_pieces first))
    ≡ Some (phase.kind, phase.position))
    (sym end_is)
    (subst (λ (p : Phase). due (begun_at stage first.position) ≡ Some (p.kind, p.position)) same course.0)
current_due kind number (first ∷ next ∷ later) stage phase course current none =
    current_due kind number (next ∷ later)
    (stage_past kind number stage first) phase course.2 current none

-- the current phase asks again
pub asked_sound : {fragment : Code} {object : Object} {step now : ℕ} → Determines fragment → IsSound fragment object step → step < now →
    (index : ℕ) (call : Call) → slice_get object.calls index ≡ Some call →
    (phase : Phase) → current_phase call.phases ≡ Some phase → phase.end ≡ None →
    Sends fragment (layout_at object phase.position) call phase.kind (sent_pieces fragment object call phase.position) →
    IsSound fragment (asked_again fragment object call (Some phase)) now
asked_sound {fragment = fragment} {object = object} {step = step} determines sound less index call at phase current none sends =
    mailed_sound (object.mail ++ missing object.mail (members_of phase.replies) asked) sound less
    (all_append _ object.mail (missing object.mail (members_of phase.replies) asked) (mail_of sound)
    (all_missing _ object.mail (members_of phase.replies) asked
    (all_requests _ phase.call phase.number phase.kind phase.position piece (layout_at object phase.position).members 0
    (length (layout_at object phase.position).members) (omega arith) request)))
  where
    piece : ℕ → Piece
    piece = sent_pieces fragment object call phase.position

    asked : List Message
    asked = requests phase.call phase.number phase.kind phase.position (layout_at object phase.position).members 0 piece

    there : LastAt call.phases phase
    there = last_at call.phases phase current

    c : CallSound fragment object step index call
    c = call_of sound index call at

    request : (member : ℕ) → member < length (layout_at object phase.position).members →
        MessageSound fragment object step (request_message phase.call phase.number phase.kind phase.position piece member)
    request member below =
        let numbers = numbered_at call.id 1 call.phases there.place phase c.numbered there.within in
        request_sound index phase piece member at there.within numbers.0 (let n = numbers.1 in omega arith) below
        (request_coded fragment object step determines sound index call at phase.kind phase.position piece
        (stage_of object index call) refl
        (current_due call.kind call.id call.phases (first_stage call.kind (source_of object index)) phase c.course current none)
        sends member)
