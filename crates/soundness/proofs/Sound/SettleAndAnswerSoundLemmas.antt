-- Settling a value and answering keep a record sound.
use Rattle.std.proofs.Common.{◌≡◌, ℕ, suc, ◌<◌, ◌≤◌, ◌⊎◌, List, length, get_or, Option, Some, true, false}
use Rattle.std.proofs.Common.{None, IsSome, refl, sym, subst, ap, ◌∙◌, inl, inr, arith, slice_get}
use Rattle.std.proofs.lemmas.Bool.{cases_eq}
use Rattle.std.proofs.lemmas.Option.{same_Some, slice_get_within, slice_get-get_or}
use Rattle.mail.specs.Phase.{Phase, lacks_pieces}
use Rattle.record.specs.Records.{Call, Object, base_of}
use Rattle.record.specs.declared.call.CallKind.TheVariants.{Read}
use Rattle.record.specs.PhaseOrder.{due, stage_after, IsCourse, EndsBefore}
use Rattle.record.specs.Legal.{first_stage, source_of, stage_of}
use Rattle.record.specs.Fragments.{Code, IsValue, IsFetch, IsSettled}
use Rattle.soundness.specs.Sound.{IsSound}
use Rattle.record.specs.Steps.{settled_object, answered_object}
use Rattle.record.specs.Wants.{want_of}
use Rattle.record.specs.Preconditions.{MaySettle}
use Rattle.record.specs.declared.stage.Want.TheVariants as wants
use Rattle.soundness.proofs.Sound.CallStepSoundLemmas.{TagStays, WithCall, source_stays, call_grown, old_call, changed_sound}
use Rattle.soundness.proofs.Sound.ChangedCallLemmas.{Changed}
use Rattle.soundness.proofs.Sound.FetchOrderLemmas.{early_due, has_fetch}
use Rattle.soundness.proofs.Sound.GrowthLemmas.{Grows, sides, settled_grows}
use Rattle.soundness.proofs.Sound.GrownItemLemmas.{mail_grows}
use Rattle.soundness.proofs.Sound.ItemLemmas.{CallSound, past_of, call_of}
use Rattle.soundness.proofs.Sound.WantCaseLemmas.{LastAt, last_at, Ready, Unsettled}
use Rattle.soundness.proofs.Sound.WantPreconditionLemmas.{answer_ready, unsettled_of, ended_before}
use Rattle.record.proofs.BegunStageLemmas.{begun_none}

-- a read that wants its answer has its value
read_settled : (fragment : Code) (object : Object) (step : ℕ) → IsSound fragment object step → (index : ℕ) (call : Call) →
    slice_get object.calls index ≡ Some call → call.kind ≡ Read →
    Ready call → due (stage_of object index call) ≡ None → IsSome call.settled
read_settled fragment object step sound index call at kind ready none = go (cases_eq found.0 there.place)
  where
    from : ℕ
    from = source_of object index

    course : IsCourse Read call.id (first_stage Read from) call.phases
    course = subst (λ k. IsCourse k call.id (first_stage k from) call.phases) kind (sound.legal.calls index call at).course

    through : due (stage_after Read call.id (first_stage Read from) call.phases) ≡ None
    through = subst (λ k. due (stage_after k call.id (first_stage k from) call.phases) ≡ None) kind none

    found : (place : ℕ) × (phase : Phase) × (slice_get call.phases place ≡ Some phase) × IsFetch phase.kind
        × (lacks_pieces phase ≡ false)
    found = has_fetch call.id call.phases (first_stage Read from) course tt
        (λ early. early_due (stage_after Read call.id (first_stage Read from) call.phases) early through)

    there : LastAt call.phases ready.phase
    there = last_at call.phases ready.phase ready.current

    go : (found.0 ≡ there.place) ⊎ (found.0 ≡ there.place → ⊥) → IsSome call.settled
    go (inl here) =
        let same : found.1 ≡ ready.phase = same_Some found.1 ready.phase
        (sym found.2 ∙ ap (λ i. slice_get call.phases i) here ∙ there.within) in
        ready.settled (subst (λ (p : Phase). IsFetch p.kind) same found.3)
    go (inr apart) =
        let within = slice_get_within call.phases found.0 found.1 found.2 in
        let last = there.last in
        let below : suc found.0 < length call.phases = omega (arith, apart) in
        settled_or found.1 found.4 ((call_of sound index call at).before_next found.0 found.1
        (get_or call.phases (suc found.0) found.1) found.2 found.3
        (slice_get-get_or call.phases (suc found.0) found.1 below))
      where
        settled_or : (phase : Phase) → lacks_pieces phase ≡ false → IsSome call.settled ⊎ (lacks_pieces phase ≡ true) →
            IsSome call.settled
        settled_or phase enough (inl some) = some
        settled_or phase enough (inr lacks) = absurd (let no : true ≡ false = sym lacks ∙ enough in cc)

-- a call that is not answered gets its answer or its value, and the record stays sound where it has what these ask of it
module _ {fragment : Code} {object : Object} {step now : ℕ} (sound : IsSound fragment object step) (less : step < now) (index : ℕ)
    (call : Call) (at : slice_get object.calls index ≡ Some call) (unanswered : call.answered ≡ None) (answered : Option ℕ)
    (settled : Option (List ℕ)) where
  abbrev marked : Call
  marked = record call { answered = answered; settled = settled }

  changed : Changed call marked
  changed = grind arith

  marked_sound : ((step : ℕ) → answered ≡ Some step →
      (due (stage_of object index call) ≡ None) × EndsBefore call.phases step × (step ≤ now)) →
      ((value : List ℕ) → settled ≡ Some value → IsSettled fragment object call value × IsValue value) →
      (IsSome call.settled → IsSome settled) → (call.kind ≡ Read → IsSome answered → IsSome settled) →
      IsSound fragment (WithCall object object.mail index marked) now
  marked_sound answer value kept before_answer =
      changed_sound sound less index call marked object.mail at changed stays (record {
        numbered = was.numbered;
        begins = was.begins;
        course = was.course;
        from_base = was.from_base;
        answer = λ step e. let a = answer step e in (rw source a.0, a.1);
        phases = was.phases;
        settled = λ v e. let s = (value v e).0 in
            let there = settled_grows grown s (c.phases s.place s.phase s.within).truth.placed in
            record {
              place = there.place;
              phase = there.phase;
              within = there.within;
              fetch = there.fetch;
              latest = there.latest;
              pieces = there.pieces;
            };
        before_next = λ place phase next within fetch then.
            sides kept (λ lacks. lacks) (was.before_next place phase next within fetch then);
        before_answer = before_answer;
        written = was.written;
        values = λ v e. (value v e).1;
        called = was.called;
        answered = λ when e. (answer when e).2;
        tag = was.tag;
      }) (mail_grows sound less grown)
    where
      stays : TagStays object index call marked
      stays = λ value k tag t. t

      grown : Grows now object (WithCall object object.mail index marked)
      grown = call_grown sound less index call marked object.mail at changed stays

      c : CallSound fragment object step index call
      c = call_of sound index call at

      was : CallSound fragment (WithCall object object.mail index marked) now index call
      was = old_call sound less index call marked object.mail at changed stays

      source : source_of (WithCall object object.mail index marked) index ≡ source_of object index
      source = source_stays object object.mail index call marked at refl index

pub answered_sound : {fragment : Code} {object : Object} {step now : ℕ} → IsSound fragment object step → step < now → (index : ℕ)
    (call : Call) → slice_get object.calls index ≡ Some call → want_of object index call ≡ wants.Answer →
    IsSound fragment (answered_object object index call now) now
answered_sound {fragment = fragment} {object = object} {step = step} {now = now} sound less index call at e =
    let both = answer_ready object index call e in
    let ready = both.0 in
    let none = begun_none (stage_of object index call) (base_of object) both.1 in
    let ends = ended_before call ready.phase ready.end step now ready.current ready.ended (past_of sound index call at) less in
    let c = call_of sound index call at in
    marked_sound sound less index call at ready.open_call (Some now) call.settled
    (λ when a. let same = same_Some now when a in (none, rw same at ends, omega arith)) (λ value s. (c.settled value s, c.values value s))
    (λ some. some) (λ kind answered. read_settled fragment object step sound index call at kind ready none)

pub settled_sound : {fragment : Code} {object : Object} {step now : ℕ} → IsSound fragment object step → step < now →
    (index : ℕ) (value : List ℕ) → (may : MaySettle fragment object index value) →
    IsSound fragment (settled_object object index may.call value) now
settled_sound {fragment = fragment} {object = object} {now = now} sound less index value may =
    marked_sound sound less index call at wanting.open_call call.answered (Some value)
    (λ when a. absurd (let no : None ≡ Some when = sym wanting.open_call ∙ a in cc))
    (λ v s. rw (sym (same_Some value v s)) (has, may.is_value)) (λ some. refl) (λ kind answered. refl)
  where
    call : Call
    call = may.call

    at : slice_get object.calls index ≡ Some call
    at = may.wants.0

    wanting : Unsettled call false
    wanting = unsettled_of object index call may.k may.len may.wants.1

    there : LastAt call.phases may.phase
    there = last_at call.phases may.phase may.current

    has : IsSettled fragment object call value
    has = record {
      place = there.place;
      phase = may.phase;
      within = there.within;
      fetch = rw (same_Some wanting.phase may.phase (sym wanting.current ∙ may.current)) at wanting.fetch;
      latest = λ later other e after fetch. let below = slice_get_within call.phases later other e in let last = there.last in omega arith;
      pieces = may.pieces;
    }
