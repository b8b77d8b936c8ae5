-- A call that asks again, by its requests or by its pieces, is refused for a limit or for want of memory, and for
-- nothing else.
use Rattle.std.proofs.Common.{◌≡◌, ℕ, pred, ◌⊎◌, not, nat_le, Bool, true, false, cond, List, []}
use Rattle.std.proofs.Common.{◌∷◌, Some, None, inl, inr, refl, sym}
use Rattle.std.proofs.Common.{subst, ◌∙◌}
use Rattle.tag.specs.declared.limits.TheConstants.{MOST_STEPS}
use Rattle.tag.specs.Cause.{IsRefusalBy}
use Rattle.tag.specs.declared.refusal.Refusal.{Refusal}
use Rattle.tag.specs.declared.refusal.Refusal.TheVariants.{NoMemory, NotNow}
use Rattle.encoder.specs.Fragment.{fragment}
use Rattle.mail.specs.Mail.{mail_cause}
use Rattle.mail.specs.Phase.{Phase}
use Rattle.record.specs.Records.{Call, Object}
use Rattle.record.specs.Legal.{BeginsAt}
use Rattle.soundness.specs.Sound.{IsSound}
use Rattle.record.specs.Steps.{Step, stepped}
use Rattle.record.specs.Wants.{current_phase, want_of}
use Rattle.record.specs.declared.stage.Want.TheVariants as want
use Rattle.register.specs.Causes.{call_at, if_step, unless}
use Rattle.register.specs.Causes.{post_cause, supplying_cause, value_cause}
use Rattle.register.specs.Coding.{is_pre_write}
use Rattle.register.specs.State.{State}
use Rattle.register.specs.View.{want_at}
use Rattle.cluster.specs.Cluster.{Cluster, named}
use Rattle.cluster.specs.Causes.{next, object_cause}
use Rattle.cluster.specs.Preconditions.{MayMake}
use Rattle.cluster.specs.Steps.{with_step}
use Rattle.driver.specs.Driver.{IsTurn, wanted, asking, IsDue, IsRefused}
use Rattle.driver.proofs.NamedObjectLemmas.{read_there, cause_there}
use Rattle.driver.proofs.WantLemmas.{wants_at, place_of_call}
use Rattle.driver.proofs.LimitRefusalLemmas.{full_or, full_mail, same_full, sending_full}
use Rattle.driver.proofs.StepRefusalLemmas.{refused_by}

-- a call has a current phase
begun : (phases : List Phase) (called : ℕ) → BeginsAt phases called → (phase : Phase) × (current_phase phases ≡ Some phase)
begun [] called begins = absurd begins
begun (p ∷ phases) called begins = last p phases
  where
    last : (p : Phase) (phases : List Phase) → (phase : Phase) × (current_phase (p ∷ phases) ≡ Some phase)
    last p [] = (p, refl)
    last p (q ∷ phases) = last q phases

record Asks (object : Object) (number : ℕ) : Type 0 where
  call : Call
  at : call_at object number ≡ Some call
  wants : want_of object (pred number) call ≡ want.Replies
  phase : Phase
  current : current_phase call.phases ≡ Some phase

asks : (object : Object) (last number : ℕ) → IsSound fragment object last → want_at object number ≡ Some want.Replies → Asks object number
asks object last number sound e =
    let w = wants_at object number want.Replies e in
    let at = place_of_call object number w.call w.at in
    let b = begun w.call.phases w.call.called (sound.legal.calls (pred number) w.call at).begins in
    record { call = w.call; at = w.at; wants = w.wants; phase = b.0; current = b.1 }

post_is : (object : Object) (number now : ℕ) (a : Asks object number) (b : Bool) → is_pre_write a.phase.kind ≡ b
    → post_cause now object number ≡ unless (not b) NotNow
    (if_step now (mail_cause (stepped fragment (Step.Post (pred number)) now object).mail))
post_is object number now a b is = cc (a.at, a.wants, a.current)

asking_is : (object : Object) (number : ℕ) (a : Asks object number) (b : Bool) → is_pre_write a.phase.kind ≡ b
    → asking number a.call ≡ cond (not b) (Step.Post (pred number)) (Step.Supply (pred number))
asking_is object number a b is = cc (a.current)

value_is : (object : Object) (number : ℕ) (a : Asks object number) → is_pre_write a.phase.kind ≡ true → value_cause object number ≡ None
value_is object number a is = cc (a.at, a.wants, a.current)

module _ {C : Type 0} (chooses : C → ℕ → ℕ → C → Type 0) (name : List ℕ) (call : ℕ) (cluster : Cluster) (c : C) (state : State)
    (there : named cluster.objects name ≡ Some state) (sound : IsSound fragment state.object state.last)
    (wants : wanted cluster name call ≡ Some want.Replies) where
  a : Asks state.object call
  a = asks state.object state.last call sound (sym (read_there cluster name state (λ object. want_at object call) there) ∙ wants)

  due_asking : (step : Step) → step ≡ asking call a.call → IsDue chooses name call cluster true c c step
  due_asking step is = record {
    state = state;
    there = there;
    want = want.Replies;
    wants = sym (read_there cluster name state (λ object. want_at object call) there) ∙ wants;
    next = (refl, (a.call, a.at, is));
  }

  post_at : (b : Bool) → is_pre_write a.phase.kind ≡ b → object_cause cluster name (λ object. post_cause (next cluster) object call)
      ≡ unless (not b) NotNow
      (if_step (next cluster) (mail_cause (stepped fragment (Step.Post (pred call)) (next cluster) state.object).mail))
  post_at b is =
      cause_there cluster name state (λ object. post_cause (next cluster) object call) there
      ∙ post_is state.object call (next cluster) a b is

  -- the post is refused otherwise than with NotNow
  pub post_refused : (r : Refusal) → (r ≡ NotNow → ⊥)
      → (object_cause cluster name (λ object. post_cause (next cluster) object call) ≡ Some r)
      ⊎ ((object_cause cluster name (λ object. post_cause (next cluster) object call) ≡ None) × (r ≡ NoMemory))
      → IsRefused chooses name call cluster true c c r
  post_refused r other by = go (is_pre_write a.phase.kind) refl by
    where
      go : (b : Bool) → is_pre_write a.phase.kind ≡ b
          → (object_cause cluster name (λ object. post_cause (next cluster) object call) ≡ Some r)
          ⊎ ((object_cause cluster name (λ object. post_cause (next cluster) object call) ≡ None) × (r ≡ NoMemory))
          → IsRefused chooses name call cluster true c c r
      go false is by =
          refused_by chooses name call cluster true c c (Step.Post (pred call))
          (due_asking (Step.Post (pred call)) (sym (asking_is state.object call a false is)))
          (same_full _ _ (post_at false is)
          (full_or (nat_le (next cluster) MOST_STEPS) _
          (full_mail (stepped fragment (Step.Post (pred call)) (next cluster) state.object).mail))) r by
      go true is (inl some) = absurd (other (let e = sym (post_at true is) ∙ some in cc))
      go true is (inr none) = absurd (let e = sym (post_at true is) ∙ none.0 in cc)

  -- the post is made
  pub post_turn : (new : Cluster) → object_cause cluster name (λ object. post_cause (next cluster) object call) ≡ None
      → MayMake cluster name (Step.Post (pred call)) → new ≡ with_step cluster name (Step.Post (pred call))
      → IsTurn chooses name call true cluster c new c
  post_turn new room may made = go (is_pre_write a.phase.kind) refl
    where
      go : (b : Bool) → is_pre_write a.phase.kind ≡ b → IsTurn chooses name call true cluster c new c
      go false is = record {
        step = Step.Post (pred call);
        due = due_asking (Step.Post (pred call)) (sym (asking_is state.object call a false is));
        room = room;
        may = may;
        made = made;
      }
      go true is = absurd (let e = sym (post_at true is) ∙ room in cc)

  -- where the post is refused with NotNow, the call sends pieces
  sends_there : (object_cause cluster name (λ object. post_cause (next cluster) object call) ≡ Some NotNow)
      ⊎ ((object_cause cluster name (λ object. post_cause (next cluster) object call) ≡ None) × (NotNow ≡ NoMemory))
      → is_pre_write a.phase.kind ≡ true
  sends_there by = go (is_pre_write a.phase.kind) refl by
    where
      go : (b : Bool) → is_pre_write a.phase.kind ≡ b
          → (object_cause cluster name (λ object. post_cause (next cluster) object call) ≡ Some NotNow)
          ⊎ ((object_cause cluster name (λ object. post_cause (next cluster) object call) ≡ None) × (NotNow ≡ NoMemory)) → b ≡ true
      go true is by = refl
      go false is (inr none) = absurd (let e = none.1 in cc)
      go false is (inl some) =
          absurd (elim
          (full_or (nat_le (next cluster) MOST_STEPS) _
          (full_mail (stepped fragment (Step.Post (pred call)) (next cluster) state.object).mail)) [
            | inl n ↦ (let e = sym n ∙ sym (post_at false is) ∙ some in cc)
            | inr f ↦ (let e = sym f ∙ sym (post_at false is) ∙ some in cc)
          ])

  pub supply_due : (object_cause cluster name (λ object. post_cause (next cluster) object call) ≡ Some NotNow)
      ⊎ ((object_cause cluster name (λ object. post_cause (next cluster) object call) ≡ None) × (NotNow ≡ NoMemory))
      → IsDue chooses name call cluster true c c (Step.Supply (pred call))
  supply_due by = due_asking (Step.Supply (pred call)) (sym (asking_is state.object call a true (sends_there by)))

  pub asked_value_refused : (r : Refusal) → (object_cause cluster name (λ object. post_cause (next cluster) object call) ≡ Some NotNow)
      ⊎ ((object_cause cluster name (λ object. post_cause (next cluster) object call) ≡ None) × (NotNow ≡ NoMemory))
      → IsRefusalBy (object_cause cluster name (λ object. supplying_cause (next cluster) object call)) r
      → IsRefused chooses name call cluster true c c r
  asked_value_refused r post by =
      refused_by chooses name call cluster true c c (Step.Supply (pred call)) (supply_due post)
      (same_full _ _ (cause_there cluster name state (λ object. supplying_cause (next cluster) object call) there)
      (sending_full state.object call (next cluster) (value_is state.object call a (sends_there post)))) r by

  pub asked_value_refused_at : (r : Refusal) (m : Cluster) → m ≡ cluster
      → (object_cause cluster name (λ object. post_cause (next cluster) object call) ≡ Some NotNow)
      ⊎ ((object_cause cluster name (λ object. post_cause (next cluster) object call) ≡ None) × (NotNow ≡ NoMemory))
      → IsRefusalBy (object_cause m name (λ object. supplying_cause (next m) object call)) r
      → IsRefused chooses name call cluster true c c r
  asked_value_refused_at r m same post by =
      asked_value_refused r post
      (subst (λ (m : Cluster). IsRefusalBy (object_cause m name (λ object. supplying_cause (next m) object call)) r) same by)
