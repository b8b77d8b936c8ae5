-- The handling of a message that was chosen is refused for a limit or for want of memory, and for nothing else.
use Rattle.std.proofs.Common.{◌≡◌, ℕ, zero, suc, ◌+◌, ◌<◌, ◌%◌, ◌⊎◌, ◌&&◌, nat_le, Bool, true, false, cond, List, []}
use Rattle.std.proofs.Common.{◌∷◌, length, Option, Some, None, slice_get, inl, inr, refl, sym}
use Rattle.std.proofs.Common.{ap, ◌∙◌, arith}
use Rattle.tag.specs.declared.limits.TheConstants.{MOST_STEPS, MOST_BYTES}
use Rattle.tag.specs.declared.refusal.Refusal.{Refusal}
use Rattle.tag.specs.declared.refusal.Refusal.TheVariants.{NoMemory, Full, Down}
use Rattle.mail.specs.declared.message.Message.{Message}
use Rattle.mail.specs.declared.message.Body.{Body}
use Rattle.mail.specs.declared.message.Body.TheVariants as body
use Rattle.mail.specs.Message.{request_bytes}
use Rattle.record.specs.Records.{Object}
use Rattle.record.specs.declared.stage.Want.TheVariants as want
use Rattle.std.proofs.lemmas.Option.{slice_get_within}
use Rattle.register.specs.Causes.{if_step, if_message, unless}
use Rattle.register.specs.State.{State}
use Rattle.register.specs.View.{want_at}
use Rattle.cluster.specs.Cluster.{Cluster, named}
use Rattle.cluster.specs.Accounts.{banks_all}
use Rattle.cluster.specs.Causes.{next, object_cause, can_handle}
use Rattle.driver.specs.Choices.{Picks, places_passing, is_choice, choices, handling, handled_cause, handling_cause}
use Rattle.driver.specs.Driver.{wanted, turn_cause, next_step_cause, IsRefused}
use Rattle.driver.proofs.NamedObjectLemmas.{read_there, cause_there}
use Rattle.driver.proofs.LimitRefusalLemmas.{OnlyFull, full_or, same_full}
use Rattle.driver.proofs.StepRefusalLemmas.{refused_by}

pub record Passes (test : Message → Bool) (base place : ℕ) (messages : List Message) : Type 0 where
  pub off : ℕ
  pub is : place ≡ base + off
  pub message : Message
  pub at : slice_get messages off ≡ Some message
  pub passes : test message ≡ true

pub passes_of : (test : Message → Bool) (base : ℕ) (messages : List Message) (i place : ℕ)
    → slice_get (places_passing test base messages) i ≡ Some place → Passes test base place messages
passes_of test base [] i place e = absurd (cc)
passes_of test base (m ∷ messages) i place e = go (λ i e. passes_of test (suc base) messages i place e) (test m) refl i e
  where
    later : Passes test (suc base) place messages → Passes test base place (m ∷ messages)
    later p = record { off = suc p.off; is = (let is = p.is in omega (arith, is)); message = p.message; at = p.at; passes = p.passes }

    go : ((i : ℕ) → slice_get (places_passing test (suc base) messages) i ≡ Some place → Passes test (suc base) place messages) → (b : Bool)
        → test m ≡ b → (i : ℕ)
        → slice_get (cond b (base ∷ places_passing test (suc base) messages) (places_passing test (suc base) messages)) i ≡ Some place
        → Passes test base place (m ∷ messages)
    go rest true is zero e =
        record { off = 0; is = (let same : base ≡ place = cc in omega (arith, same)); message = m; at = refl; passes = is }
    go rest true is (suc i) e = later (rest i e)
    go rest false is i e = later (rest i e)

-- a place that is picked is one of the mail
pub picked_within : {C : Type 0} (chooses : C → ℕ → ℕ → C → Type 0) (test : Message → Bool) (mail : List Message) (before after : C)
    (place : ℕ)
    → Picks chooses (places_passing test 0 mail) before after place → place < length mail
picked_within chooses test mail before after place picks =
    let p = passes_of test 0 mail (picks.0 % length (places_passing test 0 mail)) place picks.2 in
    let is = p.is in
    let within = slice_get_within mail p.off p.message p.at in
    omega arith

right_true : (a b : Bool) → (a && b) ≡ true → b ≡ true
right_true true b e = e
right_true false b e = absurd (cc)

handled_full : (cluster : Cluster) (object : Object) (message : Message) (b : Body) → can_handle cluster object message b ≡ true
    → OnlyFull (handled_cause cluster object message b)
handled_full cluster object message (body.Request asked) e =
    same_full _ _
    (ap (λ t. unless t Down
    (if_step (next cluster) (unless (nat_le (banks_all cluster.objects + request_bytes asked) MOST_BYTES) Full None))) e)
    (full_or (nat_le (next cluster) MOST_STEPS) _
    (full_or (nat_le (banks_all cluster.objects + request_bytes asked) MOST_BYTES) None (inl refl)))
handled_full cluster object message (body.Reply kind made) e = full_or (nat_le (next cluster) MOST_STEPS) None (inl refl)

due_handling : (cluster : Cluster) (call place : ℕ) (object : Object) (b : Body)
    → next_step_cause cluster call (handling place b) object ≡ handling_cause cluster place object
due_handling cluster call place object (body.Request asked) = refl
due_handling cluster call place object (body.Reply kind made) = refl

module _ {C : Type 0} (chooses : C → ℕ → ℕ → C → Type 0) (name : List ℕ) (call : ℕ) (cluster : Cluster) (before after : C) where
  pub chosen_refused : (state : State) (place : ℕ) (r : Refusal) → named cluster.objects name ≡ Some state
      → wanted cluster name call ≡ Some want.Replies
      → Picks chooses (choices cluster call state.object) before after place
      → (object_cause cluster name (handling_cause cluster place) ≡ Some r)
      ⊎ ((object_cause cluster name (handling_cause cluster place) ≡ None) × (r ≡ NoMemory))
      → IsRefused chooses name call cluster false before after r
  chosen_refused state place r there wants picks by =
      let p = passes_of (is_choice cluster call state.object) 0 state.object.mail (picks.0 % length (choices cluster call state.object))
      place picks.2 in
      let at : slice_get state.object.mail place ≡ Some p.message =
      ap (slice_get state.object.mail) (let is = p.is in let same : place ≡ p.off = omega (arith, is) in same) ∙ p.at in
      let can = right_true _ _ p.passes in
      let cause_is : turn_cause cluster name call (handling place p.message.body) ≡ object_cause cluster name
      (handling_cause cluster place) =
      cause_there cluster name state (next_step_cause cluster call (handling place p.message.body)) there
      ∙ due_handling cluster call place state.object p.message.body
      ∙ sym (cause_there cluster name state (handling_cause cluster place) there) in
      let full : OnlyFull (object_cause cluster name (handling_cause cluster place)) =
      same_full _ _ (cause_there cluster name state (handling_cause cluster place) there
      ∙ ap (λ o. if_message o (λ m. handled_cause cluster state.object m m.body)) at)
      (handled_full cluster state.object p.message p.message.body can) in
      refused_by chooses name call cluster false before after (handling place p.message.body)
      (record {
        state = state;
        there = there;
        want = want.Replies;
        wants = sym (read_there cluster name state (λ object. want_at object call) there) ∙ wants;
        next = (place, p.message, picks, at, refl);
      })
      (same_full _ _ cause_is full) r (moved cause_is by)
    where
      moved : {a b : Option Refusal} → a ≡ b → (b ≡ Some r) ⊎ ((b ≡ None) × (r ≡ NoMemory)) → (a ≡ Some r) ⊎ ((a ≡ None) × (r ≡ NoMemory))
      moved e (inl some) = inl (e ∙ some)
      moved e (inr none) = inr (e ∙ none.0, none.1)
