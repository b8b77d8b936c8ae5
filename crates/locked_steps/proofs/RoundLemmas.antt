-- A round of a call begins neither a read nor a write; where it answers, what it tells is the call's value.
use Rattle.std.proofs.Common.{◌≡◌, ℕ, zero, suc, pred, ◌<◌, ◌≤◌, inr, Bool, true, false, if◌then◌else◌, is_some, List, [], ◌∷◌, Option}
use Rattle.std.proofs.Common.{Some, None, slice_get, Result, Ok, Err, IfOk, OnOk, OnErr, refl, sym, ap, subst, ◌∙◌, arith}
use Rattle.std.specs.Prelude.{option_map}
use Rattle.std.specs.List.{AllByRecursion}
use Rattle.tag.specs.declared.limits.TheConstants.{MOST_STEPS}
use Rattle.tag.specs.declared.refusal.Refusal.{Refusal}
use Rattle.tag.specs.declared.refusal.Refusal.TheVariants.{NoMemory}
use Rattle.mail.specs.declared.message.Body.{Body}
use Rattle.mail.specs.declared.message.Body.TheVariants as body
use Rattle.record.specs.declared.call.CallKind.{CallKind}
use Rattle.record.specs.declared.call.CallKind.TheVariants.{Read}
use Rattle.record.specs.declared.stage.Want.{Want}
use Rattle.record.specs.declared.stage.Want.TheVariants as want
use Rattle.record.specs.Journals.{entry_value}
use Rattle.record.specs.Records.{Call, Object}
use Rattle.record.specs.Steps.{Step}
use Rattle.record.specs.Sending.{sent_value}
use Rattle.record.specs.Wants.{current_phase}
use Rattle.register.specs.Causes.{call_at, is_plain, answer_cause}
use Rattle.register.specs.State.{State}
use Rattle.register.specs.View.{value_at, want_at, receipt_of, receipt_at}
use Rattle.call.specs.declared.receipt.Receipt.{Receipt}
use Rattle.register.proofs.ListLemmas.{same_some}
use Rattle.register.proofs.RoomLemmas.{step_within}
use Rattle.cluster.specs.Causes.{next, object_cause}
use Rattle.cluster.specs.Cluster.{Cluster, named, if_named, place_of}
use Rattle.cluster.specs.Steps as of
use Rattle.locked_steps.specs.Calls.{client_calls}
use Rattle.driver.specs.Choices.{handling}
use Rattle.driver.specs.Driver.{wanted, asking, IsWaitingStep, IsNext, IsTurn, IsRefused}
use Rattle.driver.specs.Rounds.{MakesRound, MakesStep}
use Rattle.locked_steps.specs.Rounds.{Goes, Copies, tells}
use Rattle.driver.specs.declared.round.Round.{Round}
use Rattle.driver.specs.declared.round.Round.TheVariants as round
use Rattle.locked_steps.specs.declared.handed_in.HandedIn.{HandedIn}
use Rattle.locked_steps.specs.declared.handed_in.HandedIn.TheVariants as hand
use Rattle.locked_steps.proofs.ClusterCallCountLemmas.{calls_kept}
use Rattle.locked_steps.proofs.ObjectCallCountLemmas.{begins}
use Rattle.driver.proofs.NamedObjectLemmas.{read_there, cause_there, is_there}
use Rattle.driver.proofs.WantLemmas.{wants_at}
use Rattle.driver.proofs.StepRefusalLemmas.{answer_refused}

-- How many reads and writes there are

pub kept_step : (old new : Cluster) (name : List ℕ) (step : Step) → begins step ≡ 0 → new ≡ of.with_step old name step
    → client_calls new ≡ client_calls old
kept_step old new name step none made = ap client_calls made ∙ calls_kept old name step none

-- a step that was made or refused
pub kept_both : {T : Type 0} (answer : Result T Refusal) (old new : Cluster) (name : List ℕ) (step : Step) → begins step ≡ 0
    → OnOk answer (new ≡ of.with_step old name step) → OnErr answer (new ≡ old) → client_calls new ≡ client_calls old
kept_both (Ok x) old new name step none made same = kept_step old new name step none made
kept_both (Err e) old new name step none made same = ap client_calls same

pub quiet_handling : (place : ℕ) (b : Body) → begins (handling place b) ≡ 0
quiet_handling place (body.Request asked) = refl
quiet_handling place (body.Reply kind made) = refl

quiet_asking : (number : ℕ) (call : Call) → begins (asking number call) ≡ 0
quiet_asking number call = pick (is_plain (current_phase call.phases))
  where
    pick : (b : Bool) → begins (if b then Step.Post (pred number) else Step.Supply (pred number)) ≡ 0
    pick true = refl
    pick false = refl

module _ {C : Type 0} (chooses : C → ℕ → ℕ → C → Type 0) (name : List ℕ) (call : ℕ) where
  quiet_waiting : (cluster : Cluster) (object : Object) (again : Bool) (before after : C) (step : Step)
      → IsWaitingStep chooses name call cluster object again before after step → begins step ≡ 0
  quiet_waiting cluster object true before after step w = ap begins w.1.2 ∙ quiet_asking call w.1.0
  quiet_waiting cluster object false before after step w = ap begins w.4 ∙ quiet_handling w.0 w.1.body

  quiet_next : (cluster : Cluster) (object : Object) (again : Bool) (before after : C) (step : Step) (w : Want)
      → IsNext chooses name call cluster object again before after step w → begins step ≡ 0
  quiet_next cluster object again before after step want.Replies n = quiet_waiting cluster object again before after step n
  quiet_next cluster object again before after step (want.Settle k len) n = ap begins n.1.1
  quiet_next cluster object again before after step want.Again n = ap begins n.2
  quiet_next cluster object again before after step want.Done n = absurd n
  quiet_next cluster object again before after step _ n = ap begins n.1

  module _ (again : Bool) (old : Cluster) (before : C) (new : Cluster) (after : C) where
    counted_turn : IsTurn chooses name call again old before new after → client_calls new ≡ client_calls old
    counted_turn t =
        kept_step old new name t.step (quiet_next old t.due.state.object again before after t.step t.due.want t.due.next) t.made

    counted_round : (r : Round) → MakesRound chooses name call again old before new after r → client_calls new ≡ client_calls old
    counted_round round.Stepped h = counted_turn h.0
    counted_round (round.Answered receipt) h = counted_turn h.turn
    counted_round round.Late h = absurd h
    counted_round _ h = ap client_calls h.0

    -- a round that was made or refused
    pub counted_round_both : (answer : Result Round Refusal) → IfOk answer (λ r. MakesRound chooses name call again old before new after r)
        → OnErr answer (new ≡ old) → client_calls new ≡ client_calls old
    counted_round_both (Ok r) h same = counted_round r h
    counted_round_both (Err e) h same = ap client_calls same

  -- a step that was made, not made or refused
  pub counted_step_both : (answer : Result Bool Refusal) (old : Cluster) (before : C) (new : Cluster) (after : C)
      → IfOk answer (λ b. MakesStep chooses name call old before new after b) → OnErr answer (new ≡ old)
      → client_calls new ≡ client_calls old
  counted_step_both (Ok true) old before new after h same = counted_round false old before new after round.Stepped h
  counted_step_both (Ok false) old before new after h same = ap client_calls h.0
  counted_step_both (Err e) old before new after h same = ap client_calls same

-- What an answer tells

told_same : (kind : CallKind) (now : ℕ) (settled : Option (List ℕ))
    → (if is_some (entry_value kind (Some now) settled) then sent_value kind settled else None) ≡ entry_value kind (Some now) settled
told_same Read now None = refl
told_same _ now _ = refl

found_receipt : (object : Object) (place call now : ℕ) (receipt : Receipt) → receipt_at object place call now ≡ Some receipt
    → (c : Call) × (call_at object call ≡ Some c) × (receipt ≡ receipt_of place call now c)
found_receipt object place call now receipt e = pick (call_at object call) refl e
  where
    pick : (found : Option Call) → call_at object call ≡ found → option_map (receipt_of place call now) found ≡ Some receipt
        → (c : Call) × (call_at object call ≡ Some c) × (receipt ≡ receipt_of place call now c)
    pick None is e = absurd (cc)
    pick (Some c) is e = (c, is, sym (same_some (receipt_of place call now c) receipt e))

all_found : (P : Call → Type 0) (calls : List Call) (index : ℕ) (c : Call) → slice_get calls index ≡ Some c → AllByRecursion P calls → P c
all_found P [] index c at all = absurd (cc)
all_found P (x ∷ xs) zero c at all = subst P (same_some x c at) all.0
all_found P (x ∷ xs) (suc index) c at all = all_found P xs index c at all.1

all_at : (P : Call → Type 0) (object : Object) (call : ℕ) (c : Call) → call_at object call ≡ Some c → AllByRecursion P object.calls → P c
all_at P object zero c at all = absurd (cc)
all_at P object (suc index) c at all = all_found P object.calls index c at all

-- the calls of the object were made by the last step
abbrev pub ArePast : Cluster → List ℕ → Type 0
ArePast cluster name =
    (state : State) → named cluster.objects name ≡ Some state → AllByRecursion (λ call. call.called ≤ cluster.counter) state.object.calls

told : (old : Cluster) (name : List ℕ) (call : ℕ) (receipt : Receipt) (copy : Option (List ℕ))
    → if_named old name (λ object. receipt_at object (place_of old.objects name) call (next old)) ≡ Some receipt
    → copy ≡ if_named old name (λ object. value_at object call) → ArePast old name
    → ((if is_some receipt.value then copy else None) ≡ receipt.value) × (receipt.called < receipt.answered) × (receipt.call ≡ call)
    × (receipt.answered ≡ next old)
told old name call receipt copy handed is past =
    let s = is_there old name (λ object. receipt_at object (place_of old.objects name) call (next old)) receipt handed in
    let f = found_receipt s.0.object (place_of old.objects name) call (next old) receipt s.2 in
    let c = f.0 in
    let value : copy ≡ sent_value c.kind c.settled =
    is ∙ read_there old name s.0 (λ object. value_at object call) s.1 ∙ ap (λ (o : Option Call). value_of_call o) f.1 in
    let low : c.called ≤ old.counter = all_at (λ x. x.called ≤ old.counter) s.0.object call c f.1 (past s.0 s.1) in
    let rest = told_same c.kind (next old) c.settled in (
      subst (λ (r : Receipt). (if is_some r.value then copy else None) ≡ r.value) (sym f.2)
          (ap (λ v. if is_some (entry_value c.kind (Some (next old)) c.settled) then v else None) value ∙ rest),
      subst (λ (r : Receipt). r.called < r.answered) (sym f.2) (omega (arith, low)),
      ap (λ (r : Receipt). r.call) f.2,
      ap (λ (r : Receipt). r.answered) f.2,
    )
  where
    value_of_call : Option Call → Option (List ℕ)
    value_of_call None = None
    value_of_call (Some c) = sent_value c.kind c.settled

same_want : (a b : Want) → Some a ≡ Some b → a ≡ b
same_want a b e = cc

module _ {C : Type 0} (chooses : C → ℕ → ℕ → C → Type 0) (name : List ℕ) (call : ℕ) (again : Bool) (old : Cluster) (before : C)
    (new : Cluster) (after : C) where
  room : IsTurn chooses name call again old before new after → new.counter ≤ MOST_STEPS → old.counter < MOST_STEPS
  room t few = let is = ap (λ (k : Cluster). k.counter) t.made in omega (arith, is, few)

  pub copies : (h : HandedIn) (r : Round) (w : Want) (copy : Option (List ℕ)) → Goes chooses name call h again old before new after r
      → wanted old name call ≡ Some w
      → (w ≡ want.Answer → h ≡ hand.Empty → old.counter < MOST_STEPS → copy ≡ if_named old name (λ object. value_at object call))
      → (w ≡ want.Answer → ArePast old name)
      → new.counter ≤ MOST_STEPS → Copies old call r (if tells r then copy else None)
  copies hand.Empty (round.Answered receipt) w copy goes is value past few =
      let wants : w ≡ want.Answer = same_want w want.Answer (sym is ∙ goes.wants) in
      told old name call receipt copy goes.handed (value wants refl (room goes.turn few)) (past wants)
  copies _ (round.Answered receipt) w copy goes is value past few = absurd goes
  copies h _ w copy goes is value past few = tt

-- Want of memory for an answer

answer_none : (object : Object) (number now : ℕ) → want_at object number ≡ Some want.Answer → now ≤ MOST_STEPS
    → answer_cause now object number ≡ None
answer_none object number now wants few =
    let w = wants_at object number want.Answer wants in
    cc (w.at, w.wants, step_within now None few)

pub memory_refused : {C : Type 0} (chooses : C → ℕ → ℕ → C → Type 0) (name : List ℕ) (call : ℕ) (old : Cluster) (again : Bool) (before : C)
    (r : Refusal)
    → wanted old name call ≡ Some want.Answer → old.counter < MOST_STEPS → r ≡ NoMemory
    → IsRefused chooses name call old again before before r
memory_refused chooses name call old again before r wants few is =
    let s = is_there old name (λ object. want_at object call) want.Answer wants in
    let none : object_cause old name (λ object. answer_cause (next old) object call) ≡ None =
    cause_there old name s.0 (λ object. answer_cause (next old) object call) s.1
    ∙ answer_none s.0.object call (next old) s.2 (omega (arith, few)) in
    answer_refused chooses name call old again before r wants (inr (none, is))
