-- The call that a reply names takes it.
use Rattle.std.proofs.Common.{◌≡◌, ℕ, suc, pred, ◌-◌, ◌<◌, ◌≤◌, ◌^◌, List, length, get_or, set, slice_get, Some}
use Rattle.std.proofs.Common.{sym, ap, subst, ◌∙◌, refl, arith}
use Rattle.std.specs.List.{remove}
use Rattle.tag.specs.declared.limits.TheConstants.{MOST_PHASES}
use Rattle.encoder.specs.Fragment.{fragment}
use Rattle.bank.specs.declared.kind.Kind.{Kind}
use Rattle.bank.specs.declared.reply.Reply.{Reply}
use Rattle.mail.specs.declared.message.Message.{Message}
use Rattle.mail.specs.declared.message.Body.{Body}
use Rattle.mail.specs.declared.message.Body.TheVariants as body
use Rattle.mail.specs.declared.phase.Took.{Took}
use Rattle.std.proofs.lemmas.Option.{slice_get_read, slice_get_within}
use Rattle.register.proofs.FoundCallLemmas.{later}
use Rattle.mail.specs.Phase.{Phase, after_take}
use Rattle.record.specs.Records.{Call, Object}
use Rattle.record.specs.PhaseOrder.{begun_at}
use Rattle.record.specs.Legal.{stage_of, first_stage, source_of}
use Rattle.soundness.specs.Sound.{IsSound, IsPosted}
use Rattle.record.specs.Records.{index_by_id}
use Rattle.record.specs.Steps.{Step, taken_calls, taking_call, taking_phases}
use Rattle.record.specs.Wants.{current_phase}
use Rattle.call.specs.StageLimits.{IsBelowLimit, HasNextTag}
use Rattle.register.specs.Tracked.{Tracked, calls_of, taken_tracked, stage_taken, took_call, took_current}
use Rattle.register.specs.State.{Contents, State, object_of, state_of, made}
use Rattle.register.specs.Kept.{IsKept}
use Rattle.register.specs.View.{took_message, took_at}
use Rattle.soundness.proofs.Sound.CallIdLemmas.{found_by_id}
use Rattle.std.proofs.lemmas.List.{map-set}
use Rattle.soundness.proofs.ListLemmas.{all_get}
use Rattle.register.proofs.ListLemmas.{same_some, found_of_map}
use Rattle.register.proofs.StepInvariantLemmas.{steps_on, call_found, call_kept, open_moves_set, is_below, few_positions, current_found}
use Rattle.register.proofs.FirstReadingLemmas.{begun_near}
use Rattle.register.proofs.ShownTagLemmas.{stage_shown, current_shown, next_tag_there}
use Rattle.register.proofs.GreatestTagLemmas.{begun_up_to}
use Rattle.register.proofs.TakenCallLemmas.{stage_taking, length_taking}

-- the call that a waiting message names
pub record Named (c : Contents) (message : Message) : Type 0 where
  pub t : Tracked
  pub at : slice_get c.calls (message.call - 1) ≡ Some t
  pub number : message.call ≡ suc (message.call - 1)

pub named : (c : Contents) → IsKept c → (place : ℕ) (message : Message) → slice_get c.mail place ≡ Some message → Named c message
named c kept place message waits = record {
  t = there.0;
  at = ap (slice_get c.calls) (sym index) ∙ there.1;
  number = is ∙ ap suc index;
}
  where
    posted : IsPosted (state_of c).object message
    posted = all_get (IsPosted (state_of c).object) c.mail place message kept.sound.mail waits

    is : message.call ≡ suc posted.index
    is = posted.same_call ∙ kept.numbered posted.index posted.call posted.at

    index : posted.index ≡ message.call - 1
    index = omega (arith, is)

    there : (t : Tracked) × (slice_get c.calls posted.index ≡ Some t) × (t.call ≡ posted.call)
    there = found_of_map (λ (t : Tracked). t.call) c.calls posted.index posted.call posted.at

abbrev with_calls : Object → List Message → List Call → Object
with_calls object mail calls = record object { mail = mail; calls = calls }

-- the call that a waiting message names, as it was read
pub record IsTaking (c : Contents) (place : ℕ) (m : Message) (t : Tracked) : Type 0 where
  pub kept : IsKept c
  pub waits : slice_get c.mail place ≡ Some m
  pub at : slice_get c.calls (m.call - 1) ≡ Some t

pub call_there : {c : Contents} (place : ℕ) {m : Message} → IsKept c → slice_get c.mail place ≡ Some m → m.call - 1 < length c.calls
call_there {c = c} place {m = m} kept waits =
    let n = named c kept place m waits in slice_get_within c.calls (m.call - 1) n.t n.at

pub taking : {c : Contents} (place : ℕ) {m : Message} {t : Tracked} → IsKept c → slice_get c.mail place ≡ Some m
    → t ≡ get_or c.calls (m.call - 1) t
    → IsTaking c place m t
taking {c = c} place {m = m} {t = t} kept waits read = record {
  kept = kept;
  waits = waits;
  at = slice_get_read c.calls (length c.calls) (m.call - 1) t refl (call_there place kept waits) read;
}

module _ {c : Contents} {place : ℕ} {m : Message} {t : Tracked} (taken : IsTaking c place m t) (now : ℕ) where
  abbrev kept : IsKept c
  kept = taken.kept

  abbrev waits : slice_get c.mail place ≡ Some m
  waits = taken.waits

  abbrev at : slice_get c.calls (m.call - 1) ≡ Some t
  at = taken.at

  number_is : m.call ≡ suc (m.call - 1)
  number_is = (named c kept place m waits).number

  here : slice_get (state_of c).object.calls (m.call - 1) ≡ Some t.call
  here = call_found c.calls (m.call - 1) t at

  -- no position, and no tag, is too great for what the take does
  pub below_limit : (p : Phase) → current_phase t.call.phases ≡ Some p → IsBelowLimit (begun_at t.stage p.position)
  below_limit p current =
      let below = is_below c kept (m.call - 1) t at in
      begun_near (length c.positions) t.stage p.position (below.current p current) (few_positions c kept) below.due

  pub next_tag : {s : State} → state_of c ≡ s → s.last < now → now < 2 ^ 64 → (p : Phase) → current_phase t.call.phases ≡ Some p
      → HasNextTag t.call.kind (begun_at t.stage p.position) (after_take p m now).replies
  next_tag view later_on fits p current =
      let after = later c view later_on in
      let spot = current_found t.call.phases p current in
      next_tag_there c.last t.call.kind (begun_at t.stage p.position) (after_take p m now).replies (omega (arith, after, fits))
      (begun_up_to c.last t.stage p.position
      (subst (λ s. Rattle.register.proofs.GreatestTagLemmas.FoundUpTo c.last s) (sym (kept.staged (m.call - 1) t at))
      (stage_shown fragment (state_of c).object c.last kept.sound (m.call - 1) t.call here)))
      (current_shown fragment (state_of c).object c.last kept.sound (m.call - 1) t.call here place m waits spot.0 p spot.1 now)

  -- the record after the take
  pred_is : pred m.call ≡ m.call - 1
  pred_is = let e = number_is in ap pred e

  as_set : calls_of (set c.calls (m.call - 1) (taken_tracked m now t)) ≡ set (calls_of c.calls) (m.call - 1) (taking_call m now t.call)
  as_set = map-set (λ (t : Tracked). t.call) c.calls (m.call - 1) (taken_tracked m now t)

  id_is : m.call ≡ t.call.id
  id_is = number_is ∙ sym (kept.numbered (m.call - 1) t.call here)

  found_is : index_by_id (calls_of c.calls) m.call ≡ m.call - 1
  found_is = found_by_id (state_of c).object kept.sound.legal (m.call - 1) t.call m.call id_is here

  calls_is : calls_of (set c.calls (m.call - 1) (taken_tracked m now t))
      ≡ taken_calls (calls_of c.calls) m now (slice_get (calls_of c.calls) (index_by_id (calls_of c.calls) m.call))
  calls_is = cc (as_set, found_is, here)

  module _ {kind : Kind} {reply : Reply} (is : m.body ≡ body.Reply kind reply) where
    taking_is : object_of c.delta c.positions (remove c.mail place) (set c.calls (m.call - 1) (taken_tracked m now t))
        ≡ (made (Step.Take place) now (state_of c)).object
    taking_is = cc (calls_is, is, waits)

    taking_keeps : c.last < now → IsKept (record c
        { mail = remove c.mail place; calls = set c.calls (m.call - 1) (taken_tracked m now t); last = now })
    taking_keeps after = call_kept c (m.call - 1) now t (taken_tracked m now t) (remove c.mail place) c.is_moving kept at refl refl stage
        (subst (λ n. n ≤ MOST_PHASES) (sym (length_taking t.call.phases m now))
        (all_get (λ (call : Call). length call.phases ≤ MOST_PHASES) (state_of c).object.calls
        (m.call - 1) t.call kept.limits.phases here))
        (kept.moving ∙ sym (open_moves_set c.calls (m.call - 1) t (taken_tracked m now t) at refl refl))
        (subst (λ o. IsSound fragment o now) (sym taking_is) (steps_on c now (Step.Take place) after kept (m, (waits, (kind, reply, is)))))
      where
        stage : (taken_tracked m now t).stage ≡ stage_of (state_of c).object (m.call - 1) (taking_call m now t.call)
        stage =
            ap (λ s. stage_taken t.call.kind s (current_phase t.call.phases) m now)
            (kept.staged (m.call - 1) t at ∙ ap
            (λ n. Rattle.record.specs.PhaseOrder.stage_after t.call.kind n
            (first_stage t.call.kind (source_of (state_of c).object (m.call - 1))) t.call.phases) (sym id_is))
            ∙ stage_taking t.call.kind (first_stage t.call.kind (source_of (state_of c).object (m.call - 1))) t.call.phases m now
            ∙ ap (λ n. Rattle.record.specs.PhaseOrder.stage_after t.call.kind n
            (first_stage t.call.kind (source_of (state_of c).object (m.call - 1))) (taking_phases t.call.phases m now)) id_is

    -- what the call and the mail are made
    module _ {mail : List Message} {new : Tracked} (mail_is : mail ≡ remove c.mail place) (new_is : new ≡ taken_tracked m now t) where
      pub take_kept : {s : State} → state_of c ≡ s → s.last < now
          → IsKept (record c { mail = mail; calls = set c.calls (m.call - 1) new; last = now })
      take_kept view later_on =
          subst (λ ms. IsKept (record c { mail = ms; calls = set c.calls (m.call - 1) new; last = now })) (sym mail_is)
          (subst (λ (t : Tracked). IsKept (record c { mail = remove c.mail place; calls = set c.calls (m.call - 1) t; last = now }))
          (sym new_is)
          (taking_keeps (later c view later_on)))

      pub take_step : state_of (record c { mail = mail; calls = set c.calls (m.call - 1) new; last = now })
          ≡ made (Step.Take place) now (state_of c)
      take_step = cc (mail_is, new_is, taking_is)

  pub took_is : {took : Took} → took ≡ took_current m (current_phase t.call.phases) → took ≡ took_at (state_of c).object place
  took_is given =
      given ∙ sym (ap (took_message (state_of c).object) waits ∙ ap (took_call m) (ap (slice_get (calls_of c.calls)) pred_is ∙ here))

-- the body of the message that was taken out is that of the one that waited
pub same_body : (mail : List Message) (place : ℕ) {m other : Message} {b : Body} → slice_get mail place ≡ Some m
    → slice_get mail place ≡ Some other
    → other.body ≡ b → m.body ≡ b
same_body mail place {m = m} {other = other} mine waited is = ap (λ (m : Message). m.body) (same_some m other (sym mine ∙ waited)) ∙ is
