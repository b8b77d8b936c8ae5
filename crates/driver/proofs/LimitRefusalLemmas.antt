-- What a call does next is refused for a limit alone.
use Rattle.std.proofs.Common.{◌≡◌, ℕ, pred, ◌⊎◌, nat_le, nat_lt, Bool, true, false, is_some, List}
use Rattle.std.proofs.Common.{length, Option, Some, None, Result, Ok, Err, IsErrAnd, IfErr, inl, inr, refl, sym}
use Rattle.std.proofs.Common.{ap, subst, ◌∙◌}
use Rattle.std.proofs.lemmas.Bool.{cond_both}
use Rattle.tag.specs.declared.limits.TheConstants.{MOST_STEPS, MOST_PHASES}
use Rattle.tag.specs.declared.refusal.Refusal.{Refusal}
use Rattle.tag.specs.declared.refusal.Refusal.TheVariants.{NotNow, Full}
use Rattle.encoder.specs.Fragment.{fragment}
use Rattle.mail.specs.declared.message.Message.{Message}
use Rattle.mail.specs.Mail.{mail_cause, is_within}
use Rattle.record.specs.Records.{Call, Object}
use Rattle.record.specs.Steps.{Step, stepped}
use Rattle.record.specs.Wants.{current_phase, want_of}
use Rattle.record.specs.declared.stage.Want.{Want}
use Rattle.record.specs.declared.stage.Want.TheVariants as want
use Rattle.soundness.proofs.Sound.SentPieceLemmas.{supply_counts}
use Rattle.register.specs.Causes.{call_at, if_call, if_step, unless, wants_due, due_step, due_cause, is_answer, is_replied, if_settle}
use Rattle.register.specs.Causes.{advance_cause, again_cause, answer_cause, value_cause, new_phase_cause}
use Rattle.register.specs.Causes.{supply_room_cause, supplying_cause}
use Rattle.register.specs.Coding.{pieces_due}
use Rattle.register.specs.View.{want_at, coding_at}
use Rattle.driver.specs.Coding.{settling_cause}
use Rattle.driver.proofs.WantLemmas.{wants_at}
use Rattle.driver.proofs.SuppliedValueLemmas.{sends}

-- memory, or a limit
abbrev pub OnlyFull : Option Refusal → Type 0
OnlyFull cause = (cause ≡ None) ⊎ (cause ≡ Some Full)

pub err_of : {T : Type 0} (r : Result T Refusal) (e : Refusal) (P : Refusal → Type 0) → IsErrAnd r (λ y. y ≡ e) → P e → IfErr r P
err_of (Ok x) e P is holds = absurd is
err_of (Err y) e P is holds = subst P (sym is) holds

pub full_or : (b : Bool) (later : Option Refusal) → OnlyFull later → OnlyFull (unless b Full later)
full_or b later only = cond_both b later (Some Full) OnlyFull (λ _. only) (λ _. inr refl)

pub full_mail : (messages : List Message) → OnlyFull (mail_cause messages)
full_mail messages = cond_both (is_within messages) None (Some Full) OnlyFull (λ _. inl refl) (λ _. inr refl)

full_phase : (step : Step) (now : ℕ) (object : Object) (call : Call) → OnlyFull (new_phase_cause step now object call)
full_phase step now object call =
    full_or (nat_le now MOST_STEPS) _
    (full_or (nat_lt (length call.phases) MOST_PHASES) _ (full_mail (stepped fragment step now object).mail))

full_room : (now : ℕ) (object : Object) (index : ℕ) (call : Call) → OnlyFull (supply_room_cause now object index call)
full_room now object index call =
    cond_both (is_replied (current_phase call.phases)) (new_phase_cause (Step.Supply index) now object call)
    (if_step now (mail_cause (stepped fragment (Step.Supply index) now object).mail)) OnlyFull
    (λ _. full_phase (Step.Supply index) now object call)
    (λ _. full_or (nat_le now MOST_STEPS) _ (full_mail (stepped fragment (Step.Supply index) now object).mail))

pub same_full : (a b : Option Refusal) → a ≡ b → OnlyFull b → OnlyFull a
same_full a b e only = subst OnlyFull (sym e) only

-- a call that wants the phase that is due
due_full : (anew : Bool) (object : Object) (number now : ℕ) (wanted : Want) → wants_due anew wanted ≡ true
    → want_at object number ≡ Some wanted → OnlyFull (due_cause anew now object number)
due_full anew object number now wanted due e =
    let w = wants_at object number wanted e in
    same_full _ _
    (ap (λ o. if_call o
    (λ call. unless (wants_due anew (want_of object (pred number) call)) NotNow
    (new_phase_cause (due_step anew (pred number)) now object call))) w.at
    ∙ ap (λ v. unless (wants_due anew v) NotNow (new_phase_cause (due_step anew (pred number)) now object w.call)) w.wants
    ∙ ap (λ b. unless b NotNow (new_phase_cause (due_step anew (pred number)) now object w.call)) due)
    (full_phase (due_step anew (pred number)) now object w.call)

pub advance_full : (object : Object) (number now : ℕ) → want_at object number ≡ Some want.Advance
    → OnlyFull (advance_cause now object number)
advance_full object number now e = due_full false object number now want.Advance refl e

pub again_full : (object : Object) (number now : ℕ) → want_at object number ≡ Some want.Again → OnlyFull (again_cause now object number)
again_full object number now e = due_full true object number now want.Again refl e

pub answer_full : (object : Object) (number now : ℕ) → want_at object number ≡ Some want.Answer → OnlyFull (answer_cause now object number)
answer_full object number now e =
    let w = wants_at object number want.Answer e in
    same_full _ _ (ap (λ o. if_call o (λ call. unless (is_answer (want_of object (pred number) call)) NotNow (if_step now None))) w.at
    ∙ ap (λ v. unless (is_answer v) NotNow (if_step now None)) w.wants)
    (full_or (nat_le now MOST_STEPS) None (inl refl))

pub settling_full : (object : Object) (number k len now : ℕ) → want_at object number ≡ Some (want.Settle k len)
    → OnlyFull (settling_cause now object number)
settling_full object number k len now e =
    let w = wants_at object number (want.Settle k len) e in
    same_full _ _ (ap (λ o. if_call o (λ call. if_settle (want_of object (pred number) call) (if_step now None))) w.at
    ∙ ap (λ v. if_settle v (if_step now None)) w.wants)
    (full_or (nat_le now MOST_STEPS) None (inl refl))

pub supplying_full : (object : Object) (number k n now : ℕ) (value : List ℕ) → coding_at object number ≡ Some (value, k, n)
    → OnlyFull (supplying_cause now object number)
supplying_full object number k n now value e =
    let s = sends object number k n value e in
    same_full _ _
    (ap (λ o. if_call o
    (λ call. unless (is_some (pieces_due object (pred number) call)) NotNow (supply_room_cause now object (pred number) call))) s.at
    ∙ ap (λ (o : Option ℕ). unless (is_some o) NotNow (supply_room_cause now object (pred number) s.call)) s.due_at)
    (full_room now object (pred number) s.call)

-- where there is a value to send, the supply is refused for a limit alone
pub sending_full : (object : Object) (number now : ℕ) → value_cause object number ≡ None → OnlyFull (supplying_cause now object number)
sending_full object number now = go (call_at object number)
  where
    due_of : (call : Call) (o : Option ℕ) → unless (is_some o) NotNow None ≡ None
        → OnlyFull (unless (is_some o) NotNow (supply_room_cause now object (pred number) call))
    due_of call None e = absurd (cc)
    due_of call (Some position) e = full_room now object (pred number) call

    go : (o : Option Call) → if_call o (λ call. unless (is_some (pieces_due object (pred number) call)) NotNow None) ≡ None
        → OnlyFull (if_call o
        (λ call. unless (is_some (pieces_due object (pred number) call)) NotNow (supply_room_cause now object (pred number) call)))
    go None e = absurd (cc)
    go (Some call) e = due_of call (pieces_due object (pred number) call) e

-- a call that wants to be supplied has a value to send
pub value_none : (object : Object) (number k n : ℕ) → want_at object number ≡ Some (want.Supply k n) → value_cause object number ≡ None
value_none object number k n e =
    let w = wants_at object number (want.Supply k n) e in
    let counts = supply_counts object (pred number) w.call k n w.wants in
    cc (w.at, w.wants, counts.2)
