-- A step that no cause refuses has a number within the limit of steps.
use Rattle.std.proofs.Common.{◌≡◌, ℕ, ◌≤◌, Bool, true, false, nat_le, if◌then◌else◌}
use Rattle.std.proofs.Common.{slice_get, Option, Some, None, pred, refl, arith}
use Rattle.std.proofs.lemmas.Bool.Decides.{nat_tests}
use Rattle.tag.specs.declared.limits.TheConstants.{MOST_STEPS}
use Rattle.tag.specs.declared.refusal.Refusal.{Refusal}
use Rattle.tag.specs.declared.refusal.Refusal.TheVariants.{Full}
use Rattle.encoder.specs.Coded.{Coding}
use Rattle.encoder.specs.Fragment.{fragment}
use Rattle.mail.specs.Mail.{mail_cause}
use Rattle.mail.specs.declared.message.Message.{Message}
use Rattle.mail.specs.declared.message.Body.{Body}
use Rattle.mail.specs.declared.message.Body.TheVariants as body
use Rattle.record.specs.Records.{Call, Object}
use Rattle.record.specs.declared.stage.Want.{Want}
use Rattle.record.specs.declared.stage.Want.TheVariants as want
use Rattle.record.specs.Wants.{current_phase, want_of}
use Rattle.record.specs.Steps.{Step, stepped}
use Rattle.register.specs.Coding.{pieces_due}
use Rattle.register.specs.Causes.{unless, if_step, if_call, if_message, if_settle, call_at, is_replied}
use Rattle.register.specs.Causes.{new_phase_cause, supplied_cause, taken_cause, served_cause}
use Rattle.register.specs.Act.{act_cause}
use Rattle.register.specs.declared.act.Act.{Act}
use Rattle.register.specs.declared.act.Act.TheVariants as act

pub past_unless : (holds : Bool) (refusal : Refusal) (later : Option Refusal) → unless holds refusal later ≡ None → later ≡ None
past_unless true refusal later none = none
past_unless false refusal later none = absurd (cc)

past_settle : (w : Want) (later : Option Refusal) → if_settle w later ≡ None → later ≡ None
past_settle (want.Settle k len) later none = none
past_settle _ later none = absurd (cc)

pub past_step : (now : ℕ) (later : Option Refusal) → if_step now later ≡ None → now ≤ MOST_STEPS
past_step now later none = go (nat_le now MOST_STEPS) refl none
  where
    go : (b : Bool) → nat_le now MOST_STEPS ≡ b → unless b Full later ≡ None → now ≤ MOST_STEPS
    go true e none = grind (arith, nat_tests, e)
    go false e none = absurd (cc)

-- if nothing is refused, there is a call (or a message) whose own cause refuses nothing, and what follows from that
past_call : {P : Type 0} (found : Option Call) (cause : Call → Option Refusal) → ((call : Call) → cause call ≡ None → P) →
    if_call found cause ≡ None → P
past_call None cause use_it none = absurd (cc)
past_call (Some call) cause use_it none = use_it call none

past_message : {P : Type 0} (found : Option Message) (cause : Message → Option Refusal) →
    ((message : Message) → cause message ≡ None → P) → if_message found cause ≡ None → P
past_message None cause use_it none = absurd (cc)
past_message (Some message) cause use_it none = use_it message none

module _ (now : ℕ) (object : Object) where
  supplied_few : (index : ℕ) (call : Call) (coded : Coding) (position : Option ℕ) →
      supplied_cause now object index call coded position ≡ None → now ≤ MOST_STEPS
  supplied_few index call coded None none = absurd (cc)
  supplied_few index call coded (Some position) none = pick (is_replied (current_phase call.phases)) (past_unless _ _ _ none)
    where
      pick : (b : Bool) → (if b then new_phase_cause (Step.Supply index) now object call
          else if_step now (mail_cause (stepped fragment (Step.Supply index) now object).mail)) ≡ None → now ≤ MOST_STEPS
      pick true none = past_step now _ none
      pick false none = past_step now _ none

  served_few : (it : Body) → served_cause now object it ≡ None → now ≤ MOST_STEPS
  served_few (body.Request asked) none = past_step now _ none
  served_few (body.Reply kind made) none = absurd (cc)

  taken_few : (it : Body) → taken_cause now it ≡ None → now ≤ MOST_STEPS
  taken_few (body.Request asked) none = absurd (cc)
  taken_few (body.Reply kind made) none = past_step now _ none

  pub act_few : (a : Act) → act_cause a now object ≡ None → now ≤ MOST_STEPS
  act_few act.CallRead none = past_step now _ none
  act_few (act.CallWrite v) none = past_step now _ (past_unless _ _ _ none)
  act_few (act.CallMove l) none = past_step now _ (past_unless _ _ _ (past_unless _ _ _ none))
  act_few (act.Advance n) none = past_call (call_at object n) _ (λ call e. past_step now _ (past_unless _ _ _ e)) none
  act_few (act.Again n) none = past_call (call_at object n) _ (λ call e. past_step now _ (past_unless _ _ _ e)) none
  act_few (act.Supply n coded) none =
      past_call (call_at object n) _ (λ call e. supplied_few (pred n) call coded (pieces_due object (pred n) call) e) none
  act_few (act.Post n) none = past_call (call_at object n) _ (λ call e. past_step now _ (past_unless _ _ _ e)) none
  act_few (act.Settle n decoded) none =
      past_call (call_at object n) _
      (λ call e. past_step now _ (past_unless _ _ _ (past_settle (want_of object (pred n) call) _ e))) none
  act_few (act.Answer n) none = past_call (call_at object n) _ (λ call e. past_step now _ (past_unless _ _ _ e)) none
  act_few (act.Serve p) none = past_message (slice_get object.mail p) _ (λ message e. served_few message.body e) none
  act_few (act.Take p) none = past_message (slice_get object.mail p) _ (λ message e. taken_few message.body e) none
  act_few (act.Lose p) none = past_message (slice_get object.mail p) _ (λ message e. past_step now _ e) none
  act_few (act.Repeat p) none = past_message (slice_get object.mail p) _ (λ message e. past_step now _ e) none
