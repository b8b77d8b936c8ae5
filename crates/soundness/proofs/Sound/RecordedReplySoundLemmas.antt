-- Taking a reply keeps a record sound.
use Rattle.std.proofs.Common.{◌≡◌, ℕ, suc, ◌<◌, ◌⊎◌, true, List, length, set, Some, None, IsSome, refl}
use Rattle.std.proofs.Common.{sym, subst, ap, ◌∙◌, inl, inr, arith, le_refl, slice_get}
use Rattle.std.proofs.lemmas.Option.{slice_get_within}
use Rattle.std.specs.List.{AllByRecursion, remove}
use Rattle.bank.specs.declared.kind.Kind.{Kind}
use Rattle.bank.specs.declared.reply.Reply.{Reply}
use Rattle.mail.specs.declared.message.Message.{Message}
use Rattle.mail.specs.Message.{body_kind}
use Rattle.mail.specs.declared.phase.Taken.{Taken}
use Rattle.mail.specs.Phase.{Phase, lacks_pieces}
use Rattle.record.specs.Records.{Call, Object, base_at}
use Rattle.record.specs.Knowledge.{IsTrueReply}
use Rattle.record.specs.Legal.{first_stage, source_of}
use Rattle.record.specs.Fragments.{Code, IsFetch, IfCoded, body_tag, body_piece}
use Rattle.soundness.specs.Sound.{IsPosted, IsSound}
use Rattle.mail.specs.declared.message.Body.TheVariants as body
use Rattle.soundness.proofs.BaseLemmas.{base_set}
use Rattle.soundness.proofs.Values.TagNumberLemmas.{coded_tag_past}
use Rattle.soundness.proofs.ListLemmas.{all_push, get_set}
use Rattle.soundness.proofs.Sound.CallStepSoundLemmas.{TagStays, WithCall, call_grown, old_call, changed_sound}
use Rattle.soundness.proofs.Sound.ChangedCallLemmas.{Changed}
use Rattle.soundness.proofs.Sound.GrowthLemmas.{Grows}
use Rattle.soundness.proofs.Sound.GrownItemLemmas.{message_grows, mail_grows}
use Rattle.soundness.proofs.Sound.ItemLemmas.{ReplyCoded, PhaseSound, CallSound, MessageSound, call_of}
use Rattle.soundness.proofs.Sound.LastPhaseLemmas.{course_set, numbered_set, begins_set, last_ended, phases_set}
use Rattle.soundness.proofs.Sound.MailSoundLemmas.{all_without}
use Rattle.soundness.proofs.Sound.PreservedKnowledgeLemmas.{phase_takes}
use Rattle.soundness.proofs.Sound.TakenReplyLemmas.{grown_phase, tag_set, taken_reply, Recorded, settled_more}
use Rattle.record.proofs.Phases.PastFetchLemmas.{of_write_first}

-- one reply is recorded
pub recorded_sound : {fragment : Code} {object : Object} {step now : ℕ} (place : ℕ) → IsSound fragment object step → step < now →
    (message : Message) (kind : Kind) (made : Reply) → message.body ≡ body.Reply kind made →
    (sent : MessageSound fragment object step message) → suc sent.posted.place ≡ length sent.posted.call.phases →
    (next : Phase) → (took : Recorded sent.posted.phase message.call message.phase (taken_reply message made now) now next) →
    IsSound fragment (WithCall object (remove object.mail place) sent.posted.index (record sent.posted.call {
      phases = set sent.posted.call.phases sent.posted.place (grown_phase sent.posted.phase (taken_reply message made now) took.end);
    })) now
recorded_sound {fragment = fragment} {object = object} {step = step} {now = now} place sound less message kind made body_is sent last next
    took =
    changed_sound sound less index call new mail posted.at changed stays (record {
      numbered = numbered_set call.id 1 call.phases posted.place phase grown was.numbered posted.within refl refl;
      begins = begins_set call.phases posted.place call.called phase grown was.begins posted.within refl;
      course = course_set call.kind call.id call.phases (first_stage call.kind (source_of object' index)) posted.place phase grown
          was.course posted.within last refl refl refl;
      from_base = base_set (base_at object) call.kind call.id call.phases (first_stage call.kind (source_of object' index))
          posted.place phase grown was.from_base posted.within last refl refl;
      answer = λ at e. absurd (let ended = last_ended call.phases at posted.place phase (was.answer at e).1 posted.within last in
          let both : None ≡ Some ended.0 = sym took.open_phase ∙ ended.1 in cc);
      phases = λ j other e. phases j other (get_set call.phases posted.place j phase grown other posted.within e);
      settled = λ value s. settled_more fragment object' call posted.place phase reply took.end value posted.within (was.settled value s);
      before_next = λ j other after e fetch f. before j other after (get_set call.phases posted.place j phase grown other posted.within e)
          (get_set call.phases posted.place (suc j) phase grown after posted.within f) fetch;
      before_answer = was.before_answer;
      written = was.written;
      values = was.values;
      called = was.called;
      answered = was.answered;
      tag = coded_tag_past fragment object step now less sound call.kind call.id (source_of object' index) new.phases
          (λ j other e. coded_before j other (get_set call.phases posted.place j phase grown other posted.within e));
    }) (all_without _ object.mail place (mail_grows sound less grows))
  where
    posted : IsPosted object message
    posted = sent.posted

    index : ℕ
    index = posted.index

    phase : Phase
    phase = posted.phase

    call : Call
    call = posted.call

    reply : Taken
    reply = taken_reply message made now

    grown : Phase
    grown = grown_phase phase reply took.end

    new : Call
    new = record call { phases = set call.phases posted.place grown }

    mail : List Message
    mail = remove object.mail place

    object' : Object
    object' = WithCall object mail index new

    changed : Changed call new
    changed = record {
      same_id = refl;
      same_kind = refl;
      same_called = refl;
      same_answer = λ step e. e;
      same_phases = λ j other e. phases_set call.phases posted.place j phase grown other refl refl refl posted.within e;
    }

    stays : TagStays object index call new
    stays =
        λ value k tag t. tag_set value call.kind k call.id call.phases (first_stage call.kind (source_of object index))
        (of_write_first value call.kind (source_of object index) k) posted.place phase grown tag posted.within last took.open_phase t

    grows : Grows now object object'
    grows = call_grown sound less index call new mail posted.at changed stays

    was : CallSound fragment object' now index call
    was = old_call sound less index call new mail posted.at changed stays

    same_kind : kind ≡ phase.kind
    same_kind = ap body_kind (sym body_is) ∙ posted.same_kind

    true_reply : IsTrueReply object' phase reply
    true_reply = record {
      within = rw posted.same_position at posted.member;
      after_start = (posted.reply kind made body_is).0;
      in_order = let p = sent.past kind made body_is in omega arith;
      says = rw (posted.same_position, same_kind) at ((posted.reply kind made body_is).1);
    }

    -- the reply says of pieces what the message says
    reply_coded : (o : Object) → IfCoded fragment o message.position message.member (body_tag message.body) (body_piece message.body) →
        ReplyCoded fragment o grown reply
    reply_coded o c = rw (body_is, posted.same_position, same_kind) at c

    grown_is_sound : PhaseSound fragment object' now grown
    grown_is_sound = let s = was.phases posted.place phase posted.within in record {
      truth = phase_takes object' phase reply took.end s.truth true_reply took.fresh s.past.replies
          (λ at e. let c = took.completes at e in (c.0, rw s.truth.sized.quorum at c.1));
      opened = s.opened;
      coded = all_push _ phase.replies reply s.coded (reply_coded object' (message_grows sound less grows message sent).coded);
      past = record {
        start = s.past.start;
        replies = all_push _ phase.replies reply s.past.replies (le_refl now);
        end = λ at e. let c = (took.completes at e).0 in omega arith;
      };
    }

    phases : (j : ℕ) (other : Phase) → ((j ≡ posted.place) × (grown ≡ other)) ⊎ (slice_get call.phases j ≡ Some other) →
        PhaseSound fragment object' now other
    phases j other (inl here) = subst (PhaseSound fragment object' now) here.1 grown_is_sound
    phases j other (inr there) = was.phases j other there

    coded_before : (j : ℕ) (other : Phase) →
        ((j ≡ posted.place) × (grown ≡ other)) ⊎ (slice_get call.phases j ≡ Some other) →
        AllByRecursion (ReplyCoded fragment object other) other.replies
    coded_before j other (inl here) =
        subst (λ (p : Phase). AllByRecursion (ReplyCoded fragment object p) p.replies) here.1
        (all_push _ phase.replies reply ((call_of sound index call posted.at).phases posted.place phase posted.within).coded
        (reply_coded object sent.coded))
    coded_before j other (inr there) = ((call_of sound index call posted.at).phases j other there).coded

    before : (j : ℕ) (other after : Phase) → ((j ≡ posted.place) × (grown ≡ other)) ⊎ (slice_get call.phases j ≡ Some other) →
        ((suc j ≡ posted.place) × (grown ≡ after)) ⊎ (slice_get call.phases (suc j) ≡ Some after) →
        IsFetch other.kind → IsSome call.settled ⊎ (lacks_pieces other ≡ true)
    before j other after (inl here) (inl there) fetch = absurd (let a = here.0 in let b = there.0 in omega arith)
    before j other after (inl here) (inr there) fetch =
        absurd (let below = slice_get_within call.phases (suc j) after there in let a = here.0 in omega (arith, last))
    before j other after (inr here) (inl there) fetch = was.before_next j other phase here fetch (rw there.0 posted.within)
    before j other after (inr here) (inr there) fetch = was.before_next j other after here fetch there
