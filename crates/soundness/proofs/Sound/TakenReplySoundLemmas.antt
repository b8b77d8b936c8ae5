-- A reply that is taken, recorded or stale, keeps a record sound.
use Rattle.std.proofs.Common.{◌≡◌, ℕ, suc, ◌+◌, ◌<◌, ◌⊎◌, length, set}
use Rattle.std.proofs.Common.{Some, sym, subst, subst₂, ap, ◌∙◌, inl, inr, arith, slice_get}
use Rattle.std.proofs.lemmas.Option.{same_Some}
use Rattle.std.specs.List.{remove}
use Rattle.bank.specs.declared.kind.Kind.{Kind}
use Rattle.bank.specs.declared.reply.Reply.{Reply}
use Rattle.mail.specs.declared.message.Message.{Message}
use Rattle.mail.specs.Phase.{Phase, after_body, after_reply, after_take}
use Rattle.record.specs.Records.{Call, Object}
use Rattle.record.specs.Legal.{IsLegal}
use Rattle.record.specs.Fragments.{Code}
use Rattle.soundness.specs.Sound.{IsPosted, IsSound}
use Rattle.record.specs.Steps.{taken_object}
use Rattle.mail.specs.declared.message.Body.TheVariants as body
use Rattle.soundness.proofs.ListLemmas.{all_get}
use Rattle.soundness.proofs.Sound.CallIdLemmas.{found_by_id}
use Rattle.soundness.proofs.Sound.CallStepSoundLemmas.{WithCall}
use Rattle.soundness.proofs.Sound.ChangedCallLemmas.{Others}
use Rattle.soundness.proofs.Sound.MailSoundLemmas.{Mailed, all_without, mailed_sound}
use Rattle.soundness.proofs.Sound.RecordedReplySoundLemmas.{recorded_sound}
use Rattle.soundness.proofs.Sound.ItemLemmas.{MessageSound, call_of, mail_of}
use Rattle.soundness.proofs.Sound.TakenReplyLemmas.{numbered_at, taken_reply, Recorded, take_result, TakesAt, takes_at, set_same}

-- the object after the take, where the message names this call, of which this phase is the last
taken_is : (object : Object) → IsLegal object → (place : ℕ) (message : Message) (now index : ℕ) (call : Call) → message.call ≡ call.id →
    slice_get object.calls index ≡ Some call → (takes : TakesAt call.phases message now) →
    taken_object object place message now ≡ WithCall object (remove object.mail place) index
    (record call { phases = set call.phases takes.place (after_take takes.phase message now) })
taken_is object legal place message now index call c at takes = grind (arith, found_by_id)

pub taken_sound : {fragment : Code} {object : Object} {step now : ℕ} (place : ℕ) → IsSound fragment object step → step < now →
    (message : Message) (kind : Kind) (made : Reply) → slice_get object.mail place ≡ Some message →
    message.body ≡ body.Reply kind made → IsSound fragment (taken_object object place message now) now
taken_sound {fragment = fragment} {object = object} {step = step} {now = now} place sound less message kind made at body_is =
    rw (taken_is object sound.legal place message now posted.index posted.call posted.same_call posted.at takes, taken)
    (go (take_result takes.phase message.call message.phase message.member made now))
  where
    sent : MessageSound fragment object step message
    sent = all_get _ object.mail place message (mail_of sound) at

    posted : IsPosted object message
    posted = sent.posted

    takes : TakesAt posted.call.phases message now
    takes = takes_at posted.call.phases message now posted.place posted.phase posted.within

    next : Phase
    next = after_reply takes.phase message.call message.phase message.member made now

    taken : after_take takes.phase message now ≡ next
    taken = ap (λ b. after_body takes.phase message.call message.phase message.member b now) body_is

    with_next : Phase → Object
    with_next phase = WithCall object (remove object.mail place) posted.index
        (record posted.call { phases = set posted.call.phases takes.place phase })

    same : with_next takes.phase ≡ Mailed object (remove object.mail place)
    same =
        ap (λ phases. WithCall object (remove object.mail place) posted.index (record posted.call { phases = phases }))
        (set_same posted.call.phases takes.place takes.phase takes.within)
        ∙ ap (λ calls. Others object (remove object.mail place) calls) (set_same object.calls posted.index posted.call posted.at)

    numbers : (takes.phase.call ≡ posted.call.id) × (takes.phase.number ≡ 1 + takes.place)
    numbers = numbered_at posted.call.id 1 posted.call.phases takes.place takes.phase
        (call_of sound posted.index posted.call posted.at).numbered takes.within

    go : (next ≡ takes.phase) ⊎ Recorded takes.phase message.call message.phase (taken_reply message made now) now next →
        IsSound fragment (with_next next) now
    go (inl idle) =
        subst (λ o. IsSound fragment o now) (sym (ap with_next idle ∙ same))
        (mailed_sound (remove object.mail place) sound less (all_without _ object.mail place (mail_of sound)))
    go (inr recorded) =
        let here : posted.place
        ≡ takes.place = (let a = posted.same_phase in let b = numbers.1 in let n = recorded.same_number in omega arith) in
        let phase_is : takes.phase ≡ posted.phase = same_Some takes.phase posted.phase
        (sym takes.within ∙ ap (λ i. slice_get posted.call.phases i) (sym here) ∙ posted.within) in
        let last : suc posted.place ≡ length posted.call.phases = (let l = takes.last in omega arith) in
        let took : Recorded posted.phase message.call message.phase (taken_reply message made now) now next =
        subst (λ (p : Phase). Recorded p message.call message.phase (taken_reply message made now) now next) phase_is recorded in
        subst₂
        (λ i p. IsSound fragment
        (WithCall object (remove object.mail place) posted.index (record posted.call { phases = set posted.call.phases i p })) now)
        here (sym took.grown) (recorded_sound place sound less message kind made body_is sent last next took)
