-- A step that comes next is refused for a limit or for want of memory, and for nothing else.
use Rattle.std.proofs.Common.{◌≡◌, ℕ, pred, ◌⊎◌, Bool, true, List}
use Rattle.std.proofs.Common.{Option, Some, None, inl, inr, refl, sym}
use Rattle.std.proofs.Common.{ap, subst, ◌∙◌}
use Rattle.tag.specs.declared.refusal.Refusal.{Refusal}
use Rattle.tag.specs.declared.refusal.Refusal.TheVariants.{NoMemory, NoObject, NoCall, Full}
use Rattle.decoder.specs.Pieces.{IsInterpolated}
use Rattle.record.specs.Records.{Call, Object}
use Rattle.record.specs.PhaseOrder.{due}
use Rattle.record.specs.Steps.{Step}
use Rattle.record.specs.declared.stage.Want.{Want}
use Rattle.record.specs.declared.stage.Want.TheVariants as want
use Rattle.register.specs.Causes.{call_at, if_call, number_cause, advance_cause, again_cause, answer_cause, supplying_cause}
use Rattle.register.specs.State.{State}
use Rattle.register.specs.View.{want_at, coding_at, fetched_pieces}
use Rattle.cluster.specs.Cluster.{Cluster, named, if_named}
use Rattle.cluster.specs.Causes.{next, if_object, object_cause}
use Rattle.cluster.specs.Preconditions.{MayMake}
use Rattle.cluster.specs.Steps.{with_step}
use Rattle.driver.specs.Coding.{settling_cause}
use Rattle.driver.specs.Driver.{wanted, turn_cause, IsNext, IsDue, IsTurn, IsRefused}
use Rattle.driver.proofs.NamedObjectLemmas.{cause_there, is_there}
use Rattle.driver.proofs.WantLemmas.{wants_at}
use Rattle.driver.proofs.LimitRefusalLemmas.{OnlyFull, same_full, advance_full, again_full, answer_full, settling_full, supplying_full}
use Rattle.driver.proofs.LimitRefusalLemmas.{sending_full}
use Rattle.driver.proofs.LimitRefusalLemmas.{value_none}

-- a look-up of a call is refused if there is no such object, or if it has no such call
pub number_only : (cluster : Cluster) (name : List ℕ) (call : ℕ) (r : Refusal)
    → object_cause cluster name (λ object. number_cause object call) ≡ Some r → (r ≡ NoObject) ⊎ (r ≡ NoCall)
number_only cluster name call r e = go (named cluster.objects name) e
  where
    at_call : (o : Option Call) → if_call o (λ call. None) ≡ Some r → r ≡ NoCall
    at_call None e = cc
    at_call (Some a) e = absurd (cc)

    go : (o : Option State) → if_object o (λ object. number_cause object call) ≡ Some r → (r ≡ NoObject) ⊎ (r ≡ NoCall)
    go None e = inl (let same : r ≡ NoObject = cc in same)
    go (Some state) e = inr (at_call (call_at state.object call) e)

-- a call that wants something is there
pub number_there : (cluster : Cluster) (name : List ℕ) (call : ℕ) (w : Want) → wanted cluster name call ≡ Some w
    → object_cause cluster name (λ object. number_cause object call) ≡ None
number_there cluster name call w e =
    let s = is_there cluster name (λ object. want_at object call) w e in
    cause_there cluster name s.0 (λ object. number_cause object call) s.1
    ∙ ap (λ (o : Option Call). if_call o (λ call. None)) (wants_at s.0.object call w s.2).at

module _ {C : Type 0} (chooses : C → ℕ → ℕ → C → Type 0) (name : List ℕ) (call : ℕ) (cluster : Cluster) (again : Bool)
    (before after : C) where
  pub refused_by : (step : Step) → IsDue chooses name call cluster again before after step → OnlyFull (turn_cause cluster name call step)
      → (r : Refusal)
      → (turn_cause cluster name call step ≡ Some r) ⊎ ((turn_cause cluster name call step ≡ None) × (r ≡ NoMemory))
      → IsRefused chooses name call cluster again before after r
  refused_by step due only r (inr memory) =
      subst (λ r. IsRefused chooses name call cluster again before after r) (sym memory.1)
      (step, due, memory.0)
  refused_by step due (inl none) r (inl some) = absurd (let clash = sym none ∙ some in cc)
  refused_by step due (inr full) r (inl some) =
      let same : r ≡ Full = (let e = sym some ∙ full in cc) in
      subst (λ r. IsRefused chooses name call cluster again before after r) (sym same) (step, due, full)

module _ {C : Type 0} (chooses : C → ℕ → ℕ → C → Type 0) (name : List ℕ) (call : ℕ) (cluster : Cluster) (again : Bool) (c : C) where
  pub due_of : (w : Want) (step : Step) → wanted cluster name call ≡ Some w
      → ((object : Object) → want_at object call ≡ Some w → IsNext chooses name call cluster object again c c step w)
      → IsDue chooses name call cluster again c c step
  due_of w step e each =
      let s = is_there cluster name (λ object. want_at object call) w e in
      record { state = s.0; there = s.1; want = w; wants = s.2; next = each s.0.object s.2 }

  -- a step that comes next is made, and leaves the chooser as it is
  pub turn_of : (w : Want) (step : Step) (new : Cluster) → wanted cluster name call ≡ Some w
      → ((object : Object) → want_at object call ≡ Some w → IsNext chooses name call cluster object again c c step w)
      → turn_cause cluster name call step ≡ None → MayMake cluster name step → new ≡ with_step cluster name step
      → IsTurn chooses name call again cluster c new c
  turn_of w step new e each room may is = record { step = step; due = due_of w step e each; room = room; may = may; made = is }

  full_of : (w : Want) (cause : Object → Option Refusal) → wanted cluster name call ≡ Some w
      → ((object : Object) → want_at object call ≡ Some w → OnlyFull (cause object))
      → OnlyFull (object_cause cluster name cause)
  full_of w cause e each =
      let s = is_there cluster name (λ object. want_at object call) w e in
      same_full _ _ (cause_there cluster name s.0 cause s.1) (each s.0.object s.2)

  -- what refuses a look-up of the call refuses its turn
  pub number_refused : (r : Refusal) → object_cause cluster name (λ object. number_cause object call) ≡ Some r
      → IsRefused chooses name call cluster again c c r
  number_refused r e =
      elim (number_only cluster name call r e) [
        | inl same ↦ subst (λ r. IsRefused chooses name call cluster again c c r) (sym same) (refl, e ∙ ap Some same)
        | inr same ↦ subst (λ r. IsRefused chooses name call cluster again c c r) (sym same) (refl, e ∙ ap Some same)
      ]

  abbrev By : Option Refusal → Refusal → Type 0
  By cause r = (cause ≡ Some r) ⊎ ((cause ≡ None) × (r ≡ NoMemory))

  pub advance_refused : (r : Refusal) → wanted cluster name call ≡ Some want.Advance
      → By (object_cause cluster name (λ object. advance_cause (next cluster) object call)) r
      → IsRefused chooses name call cluster again c c r
  advance_refused r e by =
      refused_by chooses name call cluster again c c (Step.Advance (pred call))
      (due_of want.Advance (Step.Advance (pred call)) e (λ object w. (refl, refl)))
      (full_of want.Advance (λ object. advance_cause (next cluster) object call) e (λ object w. advance_full object call (next cluster) w))
      r by

  pub again_refused : (r : Refusal) → again ≡ true → wanted cluster name call ≡ Some want.Again
      → By (object_cause cluster name (λ object. again_cause (next cluster) object call)) r
      → IsRefused chooses name call cluster again c c r
  again_refused r anew e by =
      refused_by chooses name call cluster again c c (Step.Again (pred call))
      (due_of want.Again (Step.Again (pred call)) e (λ object w. (anew, refl, refl)))
      (full_of want.Again (λ object. again_cause (next cluster) object call) e (λ object w. again_full object call (next cluster) w)) r
      by

  pub answer_refused : (r : Refusal) → wanted cluster name call ≡ Some want.Answer
      → By (object_cause cluster name (λ object. answer_cause (next cluster) object call)) r
      → IsRefused chooses name call cluster again c c r
  answer_refused r e by =
      refused_by chooses name call cluster again c c (Step.AnswerCall (pred call))
      (due_of want.Answer (Step.AnswerCall (pred call)) e (λ object w. (refl, refl)))
      (full_of want.Answer (λ object. answer_cause (next cluster) object call) e (λ object w. answer_full object call (next cluster) w)) r
      by

  pub value_refused : (k n : ℕ) (r : Refusal) → wanted cluster name call ≡ Some (want.Supply k n)
      → By (object_cause cluster name (λ object. supplying_cause (next cluster) object call)) r
      → IsRefused chooses name call cluster again c c r
  value_refused k n r e by =
      refused_by chooses name call cluster again c c (Step.Supply (pred call))
      (due_of (want.Supply k n) (Step.Supply (pred call)) e (λ object w. (refl, refl)))
      (full_of (want.Supply k n) (λ object. supplying_cause (next cluster) object call) e
      (λ object w. sending_full object call (next cluster) (value_none object call k n w))) r by

  pub settle_refused : (k len : ℕ) (r : Refusal) → wanted cluster name call ≡ Some (want.Settle k len)
      → ((state : State) → named cluster.objects name ≡ Some state → (value : List ℕ)
      × IsInterpolated k len (fetched_pieces state.object call) value)
      → By (object_cause cluster name (λ object. settling_cause (next cluster) object call)) r
      → IsRefused chooses name call cluster again c c r
  settle_refused k len r e give by =
      let s = is_there cluster name (λ object. want_at object call) (want.Settle k len) e in
      let v = give s.0 s.1 in
      refused_by chooses name call cluster again c c (Step.Settle (pred call) v.0)
      (record { state = s.0; there = s.1; want = want.Settle k len; wants = s.2; next = (refl, (v.0, refl, v.1)) })
      (full_of (want.Settle k len) (λ object. settling_cause (next cluster) object call) e
      (λ object w. settling_full object call k len (next cluster) w)) r by

  pub supply_refused : (k n : ℕ) (value : List ℕ) (r : Refusal) → IsDue chooses name call cluster again c c (Step.Supply (pred call))
      → if_named cluster name (λ object. coding_at object call) ≡ Some (value, k, n)
      → By (object_cause cluster name (λ object. supplying_cause (next cluster) object call)) r
      → IsRefused chooses name call cluster again c c r
  supply_refused k n value r due sent by =
      let s = is_there cluster name (λ object. coding_at object call) (value, k, n) sent in
      refused_by chooses name call cluster again c c (Step.Supply (pred call)) due
      (same_full _ _ (cause_there cluster name s.0 (λ object. supplying_cause (next cluster) object call) s.1)
      (supplying_full s.0.object call k n (next cluster) value s.2))
      r by
