-- The turns of a whole call.
use Rattle.std.proofs.Common.{◌≡◌, ◌⊎◌, ℕ, ◌+◌, ◌<◌, Bool, false, List, Option, Some, None, Result, Ok, Err, MatchResult, inl, inr}
use Rattle.std.proofs.Common.{refl, sym, ap, ◌∙◌, subst, add-one}
use Rattle.tag.specs.declared.refusal.Refusal.{Refusal}
use Rattle.tag.specs.declared.refusal.Refusal.TheVariants.{NoMemory, NoObject, NoCall, NotNow, Full, Stuck, Collected, GaveUp}
use Rattle.record.specs.declared.stage.Want.TheVariants as want
use Rattle.register.specs.Causes.{number_cause}
use Rattle.cluster.specs.Causes.{object_cause}
use Rattle.record.specs.Steps.{Step}
use Rattle.call.specs.declared.receipt.Receipt.{Receipt}
use Rattle.cluster.specs.Cluster.{Cluster}
use Rattle.cluster.specs.Preconditions.{MayMake}
use Rattle.cluster.specs.Steps.{with_step}
use Rattle.driver.specs.declared.whole_call.NotAnswered.{NotAnswered}
use Rattle.driver.specs.declared.whole_call.NotAnswered.TheVariants as unanswered
use Rattle.driver.specs.Driver.{wanted, asks_again, Drives, IsTurn, IsAnswerTurn, IsNotAnswered, IsRefused, FinishesCall}
use Rattle.driver.specs.Driver.{IsUntouched, IsUnfinished}
use Rattle.driver.proofs.StepRefusalLemmas.{number_only, number_there}
use Rattle.driver.proofs.TurnLemmas.{same_want}
use Rattle.driver.specs.WholeCalls.{IsWholeCall, next_number}

module _ {C : Type 0} (chooses : C → ℕ → ℕ → C → Type 0) (name : List ℕ) (call : ℕ) (resumed : Bool) (turns : ℕ) (old : Cluster)
    (before : C) where
  pub turned : (count : ℕ) (middle : Cluster) (held : C) (new : Cluster) (after : C)
      → Drives chooses name call resumed count old before middle held
      → (again : Bool) → again ≡ asks_again resumed count → IsTurn chooses name call again middle held new after
      → Drives chooses name call resumed (count + 1) old before new after
  turned count middle held new after drives again is turn =
      subst (λ n. Drives chooses name call resumed n old before new after) (sym (add-one count))
      (middle, held, drives, subst (λ again. IsTurn chooses name call again middle held new after) is turn)

  abbrev IsOpen : (count : ℕ) → Cluster → Type 0
  IsOpen count cluster = (count ≡ 0) ⊎ IsNotAnswered cluster name call

  abbrev Driven : (count : ℕ) → Cluster → C → Type 0
  Driven count cluster held = Drives chooses name call resumed count old before cluster held

  -- before the first turn, nothing has changed
  untouched : (count : ℕ) (new : Cluster) (held after : C) (P : Cluster → Type 0) → count ≡ 0 → Driven count new held → after ≡ held
      → P new → IsUntouched chooses name call old before new after × P old
  untouched count new held after P zero drives same p =
      let d = subst (λ n. Driven n new held) zero drives in ((d.0, same ∙ d.1), subst P d.0 p)

  -- there is no such call
  pub unfound : (count : ℕ) (new : Cluster) (held after : C) (r : Refusal) → Driven count new held → IsOpen count new → after ≡ held
      → object_cause new name (λ object. number_cause object call) ≡ Some r
      → IsUnfinished chooses name call resumed turns old before new after r
  unfound count new held after r drives (inr open_call) same e =
      absurd (let clash = sym (number_there new name call open_call.0 open_call.1) ∙ e in cc)
  unfound count new held after r drives (inl zero) same e =
      elim (number_only new name call r e) [
        | inl is ↦ subst (λ r. IsUnfinished chooses name call resumed turns old before new after r) (sym is)
            (untouched count new held after (λ m. object_cause m name (λ object. number_cause object call) ≡ Some NoObject) zero drives same
            (e ∙ ap Some is))
        | inr is ↦ subst (λ r. IsUnfinished chooses name call resumed turns old before new after r) (sym is)
            (untouched count new held after (λ m. object_cause m name (λ object. number_cause object call) ≡ Some NoCall) zero drives same
            (e ∙ ap Some is))
      ]

  -- the call is answered
  pub answered : (count : ℕ) (new : Cluster) (held after : C) → Driven count new held → IsOpen count new → after ≡ held
      → wanted new name call ≡ Some want.Done → IsUnfinished chooses name call resumed turns old before new after NotNow
  answered count new held after drives (inr open_call) same e = absurd (open_call.2 (same_want _ _ (sym open_call.1 ∙ e)))
  answered count new held after drives (inl zero) same e =
      untouched count new held after (λ m. wanted m name call ≡ Some want.Done) zero drives same e

  -- the turns are over, and the call has no receipt
  pub unfinished : (count : ℕ) (new : Cluster) (held : C) (r : Refusal) → count ≡ turns → Driven count new held → IsOpen count new
      → (r ≡ NotNow) × (wanted new name call ≡ Some want.Done)
      ⊎ (r ≡ GaveUp) × IsNotAnswered new name call
      ⊎ (object_cause new name (λ object. number_cause object call) ≡ Some r)
      → IsUnfinished chooses name call resumed turns old before new held r
  unfinished count new held r last drives open_call (inl done) =
      subst (λ r. IsUnfinished chooses name call resumed turns old before new held r) (sym done.0)
      (answered count new held held drives open_call refl done.1)
  unfinished count new held r last drives open_call (inr (inl left)) =
      subst (λ r. IsUnfinished chooses name call resumed turns old before new held r) (sym left.0)
      (subst (λ n. Driven n new held) last drives, left.1)
  unfinished count new held r last drives open_call (inr (inr missing)) =
      unfound count new held held r drives open_call refl missing

  refused_here : (count : ℕ) (new : Cluster) (held after : C) (r : Refusal) → count < turns → Driven count new held → IsOpen count new
      → IsRefused chooses name call new (asks_again resumed count) held after r
      → IsUnfinished chooses name call resumed turns old before new after r
  refused_here count new held after NoObject within drives open_call e = unfound count new held after NoObject drives open_call e.0 e.1
  refused_here count new held after NoCall within drives open_call e = unfound count new held after NoCall drives open_call e.0 e.1
  refused_here count new held after NotNow within drives open_call e = answered count new held after drives open_call e.0 e.1
  refused_here count new held after Stuck within drives open_call e =
      record { count = count; within = within; held = held; drives = drives; refused = e }
  refused_here count new held after Collected within drives open_call e =
      record { count = count; within = within; held = held; drives = drives; refused = e }
  refused_here count new held after Full within drives open_call e =
      record { count = count; within = within; held = held; drives = drives; refused = e }
  refused_here count new held after NoMemory within drives open_call e =
      record { count = count; within = within; held = held; drives = drives; refused = e }
  refused_here count new held after _ within drives open_call e = absurd e

  module _ (count : ℕ) (middle seen new : Cluster) (held kept after : C) (again : Bool) (same : seen ≡ middle) (same_held : kept ≡ held)
      (is : again ≡ asks_again resumed count) (within : count < turns) (drives : Driven count middle held) where
    -- a turn is refused
    pub stopped : (r : Refusal) → IsOpen count middle → new ≡ seen → IsRefused chooses name call seen again kept after r
        → IsUnfinished chooses name call resumed turns old before new after r
    stopped r open_call unchanged e =
        subst (λ (m : Cluster). IsUnfinished chooses name call resumed turns old before m after r) (sym (unchanged ∙ same))
        (refused_here count middle held after r within drives open_call
        (subst (λ again. IsRefused chooses name call middle again held after r) is
        (subst (λ (m : Cluster). IsRefused chooses name call m again held after r) same
        (subst (λ held. IsRefused chooses name call seen again held after r) same_held e))))

    -- a turn answers the call
    pub finished : (receipt : Receipt) → IsAnswerTurn chooses name call again seen kept new after receipt
        → FinishesCall chooses name call resumed turns old before new after receipt
    finished receipt turn = record {
      count = count;
      within = within;
      middle = middle;
      held = held;
      drives = drives;
      answers = subst (λ again. IsAnswerTurn chooses name call again middle held new after receipt) is
          (subst (λ (m : Cluster). IsAnswerTurn chooses name call again m held new after receipt) same
          (subst (λ held. IsAnswerTurn chooses name call again seen held new after receipt) same_held turn));
    }

-- a call that has begun, and then the driver, are a whole call
module _ {C : Type 0} (chooses : C → ℕ → ℕ → C → Type 0) (name : List ℕ) (turns : ℕ) (old : Cluster) (before : C) (begun new : Cluster)
    (after : C) (call : ℕ) (cause : Option Refusal) (step : Step) where
  pub whole_call : (r : Result Receipt NotAnswered) → begun ≡ with_step old name step → MayMake old name step
      → next_number old name ≡ Some call → cause ≡ None
      → MatchResult r (λ receipt. FinishesCall chooses name call false turns begun before new after receipt)
      (λ e. (refusal : Refusal) × (e ≡ unanswered.Open call refusal)
      × IsUnfinished chooses name call false turns begun before new after refusal)
      → IsWholeCall chooses name turns old before new after cause step r
  whole_call (Ok receipt) made may number none done = (
    call,
    none,
    number,
    may,
    subst (λ (m : Cluster). FinishesCall chooses name call false turns m before new after receipt) made done,
  )
  whole_call (Err e) made may number none done =
      subst (λ (e : NotAnswered). IsWholeCall chooses name turns old before new after cause step (Err e)) (sym done.1)
      (none, number, may, subst (λ (m : Cluster). IsUnfinished chooses name call false turns m before new after done.0) made done.2)
