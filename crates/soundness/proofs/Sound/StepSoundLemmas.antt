-- Each step that may be made keeps a record sound.
use Rattle.std.proofs.Common.{◌≡◌, ℕ, ◌<◌, ◌⊎◌, List}
use Rattle.std.proofs.Common.{Some, sym, subst, inl, inr, slice_get}
use Rattle.bank.specs.declared.kind.Kind.TheVariants.{PreWrite}
use Rattle.record.specs.Records.{Call, Object, layout_at}
use Rattle.record.specs.Legal.{due_of}
use Rattle.record.specs.Fragments.{Code, Determines}
use Rattle.soundness.specs.Sound.{IsSound}
use Rattle.record.specs.Preconditions.{MayStep, WantsPieces, AwaitsPieces}
use Rattle.record.specs.Steps.{Step, stepped, served_by, taken_by, advanced_object}
use Rattle.record.specs.Sending.{sent_pieces}
use Rattle.soundness.proofs.Values.SentValueLemmas.{sends_plain, sends_some}
use Rattle.soundness.proofs.Sound.AskAgainSoundLemmas.{asked_sound}
use Rattle.soundness.proofs.Sound.NewPhaseSoundLemmas.{begun_sound}
use Rattle.soundness.proofs.Sound.SettleAndAnswerSoundLemmas.{answered_sound, settled_sound}
use Rattle.soundness.proofs.Sound.MailSoundLemmas.{repeated_sound}
use Rattle.soundness.proofs.Sound.SentPieceLemmas.{sent_there}
use Rattle.soundness.proofs.Sound.ServedRequestSoundLemmas.{served_sound}
use Rattle.soundness.proofs.Sound.TakenReplySoundLemmas.{taken_sound}
use Rattle.soundness.proofs.Sound.WantPreconditionLemmas.{Plain, MayGoOn, advance_ready, supply_ready, waiting_of, lacking_of}
use Rattle.soundness.proofs.Sound.WantPreconditionLemmas.{ready_on, lacking_on}
use Rattle.soundness.proofs.Sound.RestartLemmas.{anew_due}

module _ {fragment : Code} {object : Object} {step now : ℕ} (determines : Determines fragment) (sound : IsSound fragment object step)
    (less : step < now) where
  -- a phase that is due and sends no pieces begins
  plain_sound : (index : ℕ) (call : Call) → slice_get object.calls index ≡ Some call → (plain : Plain (due_of object index call)) →
      MayGoOn call → IsSound fragment (advanced_object fragment object index call now) now
  plain_sound index call at plain ready =
      let pieces = sent_pieces fragment object call plain.position in
      rw plain.is_due (begun_sound determines sound less index call at plain.kind plain.position pieces ready plain.is_due
      (sends_plain fragment (layout_at object plain.position) call plain.kind pieces plain.not_pre))

  pub advance_sound : (index : ℕ) → MayStep fragment object (Step.Advance index) →
      IsSound fragment (stepped fragment (Step.Advance index) now object) now
  advance_sound index may =
      let ready = advance_ready object index may.0 may.1.1 in
      rw may.1.0 (plain_sound index may.0 may.1.0 ready.1 (ready_on may.0 ready.0))

  pub again_sound : (index : ℕ) → MayStep fragment object (Step.Again index) →
      IsSound fragment (stepped fragment (Step.Again index) now object) now
  again_sound index may =
      let wanting = lacking_of object index may.0 may.1.1 in
      rw may.1.0 (plain_sound index may.0 may.1.0 (anew_due object sound.legal index may.0 may.1.0 wanting) (lacking_on may.0 wanting))

  -- a call whose current phase has ended begins the phase that is due; one whose current phase is open asks again
  pub supply_sound : (index : ℕ) → MayStep fragment object (Step.Supply index) →
      IsSound fragment (stepped fragment (Step.Supply index) now object) now
  supply_sound index may = go may.takes
    where
      call : Call
      call = may.call

      go : WantsPieces object index call ⊎ AwaitsPieces object index call →
          IsSound fragment (stepped fragment (Step.Supply index) now object) now
      go (inl wanted) =
          let ready = supply_ready object index call wanted.0 wanted.1 wanted.2.1 in
          let next = ready.1 in
          rw (wanted.2.0, ready.0.current, ready.0.ended, next.is_due) (begun_sound determines sound less index call wanted.2.0
          (PreWrite next.tag) next.position (sent_pieces fragment object call next.position) (ready_on call ready.0) next.is_due
          (sends_some fragment object call (PreWrite next.tag) next.position
          (sent_there fragment object step sound index call wanted.2.0 (inl wanted))))
      go (inr awaits) =
          let phase = awaits.0 in
          let waiting = awaits.1 in
          let none = (waiting_of object index call waiting.wants.1).unended phase waiting.current in
          rw (waiting.wants.0, waiting.current, none) (asked_sound determines sound less index call waiting.wants.0 phase
          waiting.current none (sends_some fragment object call phase.kind phase.position
          (sent_there fragment object step sound index call waiting.wants.0 (inr awaits))))

  pub post_sound : (index : ℕ) → MayStep fragment object (Step.Post index) →
      IsSound fragment (stepped fragment (Step.Post index) now object) now
  post_sound index may =
      let waiting = may.waiting in
      let phase = may.phase in
      rw (waiting.wants.0, waiting.current) (asked_sound determines sound less index may.call waiting.wants.0 phase waiting.current
      ((waiting_of object index may.call waiting.wants.1).unended phase waiting.current)
      (sends_plain fragment (layout_at object phase.position) may.call phase.kind (sent_pieces fragment object may.call phase.position)
      (λ tag k. may.plain (tag, k))))

module _ {fragment : Code} {object : Object} {step now : ℕ} (sound : IsSound fragment object step) (less : step < now) where
  pub settle_sound : (index : ℕ) (value : List ℕ) → MayStep fragment object (Step.Settle index value) →
      IsSound fragment (stepped fragment (Step.Settle index value) now object) now
  settle_sound index value may = rw may.wants.0 (settled_sound sound less index value may)

  pub answer_sound : (index : ℕ) → MayStep fragment object (Step.AnswerCall index) →
      IsSound fragment (stepped fragment (Step.AnswerCall index) now object) now
  answer_sound index may = rw may.1.0 (answered_sound sound less index may.0 may.1.0 may.1.1)

  pub serve_sound : (place : ℕ) → MayStep fragment object (Step.Serve place) →
      IsSound fragment (stepped fragment (Step.Serve place) now object) now
  serve_sound place may =
      let request = may.1.1 in
      rw may.1.0 (subst (λ b. IsSound fragment (served_by object place may.0 b now) now) (sym request.1)
      (served_sound place sound less may.0 request.0 may.1.0 request.1))

  pub take_sound : (place : ℕ) → MayStep fragment object (Step.Take place) →
      IsSound fragment (stepped fragment (Step.Take place) now object) now
  take_sound place may =
      let reply = may.1.1 in
      rw may.1.0 (subst (λ b. IsSound fragment (taken_by object place may.0 b now) now) (sym reply.2)
      (taken_sound place sound less may.0 reply.0 reply.1 may.1.0 reply.2))

  pub repeat_sound : (place : ℕ) → MayStep fragment object (Step.Repeat place) →
      IsSound fragment (stepped fragment (Step.Repeat place) now object) now
  repeat_sound place may = rw may.1 (repeated_sound place may.0 may.1 sound less)
