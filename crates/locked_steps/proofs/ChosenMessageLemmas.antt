-- A message that is chosen to be handled, lost or repeated.
use Rattle.std.proofs.Common.{◌≡◌, ℕ, zero, suc, ◌+◌, ◌%◌, ◌==◌, ◌⊎◌, inl, inr, Bool, true, false, cond, if◌then◌else◌, List, [], ◌∷◌}
use Rattle.std.proofs.Common.{length, Option, Some, None, slice_get, Result, Ok, Err, IsErrAnd, MatchResult, refl, sym, ap, subst}
use Rattle.std.proofs.Common.{◌∙◌, arith}
use Rattle.std.specs.Prelude.{option_map}
use Rattle.std.proofs.lemmas.Bool.{eq-eqb, eqb-true}
use Rattle.tag.specs.declared.refusal.Refusal.{Refusal}
use Rattle.tag.specs.declared.refusal.Refusal.TheVariants.{NoMemory}
use Rattle.mail.specs.declared.message.Message.{Message}
use Rattle.mail.specs.declared.message.Body.{Body}
use Rattle.mail.specs.declared.message.Body.TheVariants as body
use Rattle.record.specs.Records.{Object}
use Rattle.register.specs.Causes.{lose_cause, repeat_cause}
use Rattle.register.specs.State.{State}
use Rattle.register.proofs.ListLemmas.{same_some}
use Rattle.cluster.specs.Causes.{next, object_cause}
use Rattle.cluster.specs.Cluster.{Cluster, named, if_named}
use Rattle.driver.specs.Choices.{places_passing, Picks, handling, handled_as, handled_result_at, step_of_handled}
use Rattle.locked_steps.specs.Messages.{any_choice, any_choices, IsStirred, IsDisturbed, disturb_cause}
use Rattle.driver.specs.declared.messages.Handled.{Handled}
use Rattle.driver.proofs.NamedObjectLemmas.{cause_there, is_there, one_state}

-- the message at a place among those that pass a test
record IsPlaced (base place : ℕ) (messages : List Message) : Type 0 where
  off : ℕ
  is : place ≡ base + off
  message : Message
  at : slice_get messages off ≡ Some message

placed_of : (test : Message → Bool) (base : ℕ) (messages : List Message) (i place : ℕ)
    → slice_get (places_passing test base messages) i ≡ Some place → IsPlaced base place messages
placed_of test base [] i place e = absurd (cc)
placed_of test base (m ∷ messages) i place e = go (λ i e. placed_of test (suc base) messages i place e) (test m) i e
  where
    later : IsPlaced (suc base) place messages → IsPlaced base place (m ∷ messages)
    later p = record { off = suc p.off; is = (let is = p.is in omega (arith, is)); message = p.message; at = p.at }

    go : ((i : ℕ) → slice_get (places_passing test (suc base) messages) i ≡ Some place → IsPlaced (suc base) place messages) → (b : Bool)
        → (i : ℕ)
        → slice_get (cond b (base ∷ places_passing test (suc base) messages) (places_passing test (suc base) messages)) i ≡ Some place
        → IsPlaced base place (m ∷ messages)
    go rest true zero e = record { off = 0; is = (let same : base ≡ place = cc in omega (arith, same)); message = m; at = refl }
    go rest true (suc i) e = later (rest i e)
    go rest false i e = later (rest i e)

step_handled : (object : Object) (place : ℕ) (b : Body) → step_of_handled place (handled_as object place b) ≡ handling place b
step_handled object place (body.Request asked) = refl
step_handled object place (body.Reply kind made) = refl

module _ {C : Type 0} (chooses : C → ℕ → ℕ → C → Type 0) (name : List ℕ) (old : Cluster) (before after : C) (state : State)
    (there : named old.objects name ≡ Some state)
    (place : ℕ) (picks : Picks chooses (any_choices old state.object) before after place) where
  -- the message that was chosen
  pub stirred : (message : Message) × IsStirred chooses name old before after place message
  stirred =
      let p = placed_of (any_choice old state.object) 0 state.object.mail (picks.0 % length (any_choices old state.object)) place picks.2 in
      let is = p.is in
      let same : place ≡ p.off = omega (arith, is) in
      (p.message, record { state = state; there = there; picks = picks; waits = ap (slice_get state.object.mail) same ∙ p.at })

  -- the step that was made
  pub handled_step : (m : Message) → IsStirred chooses name old before after place m → (h : Handled)
      → if_named old name (handled_result_at place) ≡ Some h
      → step_of_handled place h ≡ handling place m.body
  handled_step m stirs h e =
      let s = is_there old name (handled_result_at place) h e in
      let same = one_state old name s.0 stirs.state s.1 stirs.there in
      let at : handled_result_at place stirs.state.object ≡ Some h =
      subst (λ (x : State). handled_result_at place x.object ≡ Some h) same s.2 in
      let is : Some (handled_as stirs.state.object place m.body) ≡ Some h =
      sym (ap (λ o. option_map (λ (message : Message). handled_as stirs.state.object place message.body) o) stirs.waits) ∙ at in
      ap (step_of_handled place) (sym (same_some (handled_as stirs.state.object place m.body) h is))
      ∙ step_handled stirs.state.object place m.body

-- an even and an odd number
pub even : {X : Type 0} (a b : X) (n : ℕ) → n % 2 ≡ 0 → (if (n % 2) == 0 then a else b) ≡ a
even a b n e = ap (λ t. if t then a else b) (eq-eqb (n % 2) 0 e)

pub odd : {X : Type 0} (a b : X) (n : ℕ) → (n % 2 ≡ 0 → ⊥) → (if (n % 2) == 0 then a else b) ≡ b
odd a b n not = pick ((n % 2) == 0) refl
  where
    pick : (t : Bool) → ((n % 2) == 0) ≡ t → (if t then a else b) ≡ b
    pick true e = absurd (not (eqb-true (n % 2) 0 e))
    pick false e = refl

module _ {C : Type 0} (chooses : C → ℕ → ℕ → C → Type 0) (name : List ℕ) (old : Cluster) (before middle after : C) (state : State)
    (there : named old.objects name ≡ Some state) (count first answer place : ℕ) where
  pub disturbed : count ≡ length state.object.mail → chooses before count first middle → chooses middle 2 answer after
      → place ≡ first % count
      → IsDisturbed chooses name old before after place answer
  disturbed is chosen deed at = record {
    state = state;
    there = there;
    first = first;
    middle = middle;
    chosen = subst (λ n. chooses before n first middle) is chosen;
    at = at ∙ ap (λ n. first % n) is;
    deed = deed;
  }

module _ (name : List ℕ) (old : Cluster) (state : State) (there : named old.objects name ≡ Some state) (place answer : ℕ) where
  pub lose_is : answer % 2 ≡ 0
      → object_cause old name (disturb_cause old place answer) ≡ object_cause old name (λ object. lose_cause (next old) object place)
  lose_is e =
      cause_there old name state (disturb_cause old place answer) there ∙ even _ _ answer e
      ∙ sym (cause_there old name state (λ object. lose_cause (next old) object place) there)

  pub repeat_is : (answer % 2 ≡ 0 → ⊥)
      → object_cause old name (disturb_cause old place answer) ≡ object_cause old name (λ object. repeat_cause (next old) object place)
  repeat_is e =
      cause_there old name state (disturb_cause old place answer) there ∙ odd _ _ answer e
      ∙ sym (cause_there old name state (λ object. repeat_cause (next old) object place) there)

pub moved_by : {a b : Option Refusal} {r : Refusal} → a ≡ b → (b ≡ Some r) ⊎ ((b ≡ None) × (r ≡ NoMemory)) → (a ≡ Some r)
    ⊎ ((a ≡ None) × (r ≡ NoMemory))
moved_by e (inl some) = inl (e ∙ some)
moved_by e (inr none) = inr (e ∙ none.0, none.1)

-- what holds of a refusal that is passed on
pub err_match : {T : Type 0} (r : Result T Refusal) (e : Refusal) (P : T → Type 0) (Q : Refusal → Type 0) → IsErrAnd r (λ y. y ≡ e) → Q e
    → MatchResult r P Q
err_match (Ok x) e P Q is holds = absurd is
err_match (Err y) e P Q is holds = subst Q (sym is) holds
