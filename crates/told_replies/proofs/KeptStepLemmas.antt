-- Each step of a record keeps what was before, and so do several.
use Rattle.std.proofs.Common.{◌≡◌, ℕ, suc, ◌<◌, ◌≤◌, Bool, true, false, cond, is_some, List, [], ◌∷◌, ◌++◌, length, set}
use Rattle.std.proofs.Common.{Option, Some, None, get_or, slice_get, refl, sym, subst, ap, arith, le_refl}
use Rattle.std.proofs.lemmas.List.{get_or_append_left, length_push}
use Rattle.layout.specs.Layout.{Layout}
use Rattle.piece.specs.declared.piece.Piece.{Piece}
use Rattle.bank.specs.Bank.{empty_piece}
use Rattle.bank.specs.Facts.{SameBefore}
use Rattle.bank.specs.declared.kind.Kind.{Kind}
use Rattle.bank.specs.declared.kind.Kind.TheVariants.{Next, Spread}
use Rattle.bank.specs.declared.request.Request.{Request}
use Rattle.bank.specs.declared.status.Status.TheVariants.{Pending}
use Rattle.mail.specs.declared.message.Body.{Body}
use Rattle.mail.specs.declared.message.Body.TheVariants as body
use Rattle.mail.specs.declared.message.Message.{Message}
use Rattle.mail.specs.Phase.{Phase}
use Rattle.record.specs.declared.call.CallKind.{CallKind}
use Rattle.record.specs.declared.call.CallKind.TheVariants.{Read, Write, Move}
use Rattle.record.specs.Fragments.{Code}
use Rattle.record.specs.Legal.{due_of}
use Rattle.record.specs.Records.{Call, Object, bank_at, base_of, index_by_id, layout_at, no_bank, no_layout}
use Rattle.record.specs.Sending.{sent_pieces}
use Rattle.record.specs.Steps.{Step, stepped, advanced_object, asked_again, begun_object, called_object}
use Rattle.record.specs.Steps.{moving_object, new_call, new_phase, on_call, on_message, served_by}
use Rattle.record.specs.Steps.{supplied_by, taken_by, taken_calls, taking_call, with_phase}
use Rattle.record.specs.Wants.{current_phase}
use Rattle.soundness.proofs.ListLemmas.{get_push}
use Rattle.network.specs.Following.{MayRunNumbered, run_numbered}
use Rattle.network.proofs.StepLemmas.{get_end}
use Rattle.told_replies.proofs.GrownPhaseLemmas.{phases_more, phases_same, phases_taking}
use Rattle.told_replies.proofs.KeptBankLemmas.{handled, retired}
use Rattle.told_replies.proofs.KeptPastLemmas.{KeepsPast, IsStillAt, bank_same, changed_call, past_same, past_twice, same_call}

-- only calls change
calls_changed : (last : ℕ) (object : Object) (calls : List Call) (mail : List Message) →
    ((index : ℕ) (call : Call) → slice_get object.calls index ≡ Some call → IsStillAt calls index call) →
    KeepsPast last object (record object { calls = calls; mail = mail })
calls_changed last object calls mail still = record {
  positions = le_refl (length object.layouts);
  layouts = λ p h. refl;
  places = le_refl (length object.banks);
  banks = λ p i h. bank_same (bank_at object p i) (suc last);
  calls = still;
}

-- one more phase of a call
phase_added : (last : ℕ) (object : Object) (index : ℕ) (call : Call) (kind : Kind) (position now : ℕ) (piece : ℕ → Piece) →
    slice_get object.calls index ≡ Some call → KeepsPast last object (with_phase object index call kind position now piece)
phase_added last object index call kind position now piece at =
    let more = new_phase call.id (suc (length call.phases)) kind position (layout_at object position) now ∷ [] in
    let new : Call = record call { phases = call.phases ++ more } in
    let result = with_phase object index call kind position now piece in
    calls_changed last object (set object.calls index new) result.mail
    (changed_call object.calls index call new at refl refl (phases_more call.phases more))

call_added : (last : ℕ) (object : Object) (id : ℕ) (kind : CallKind) (now : ℕ) → KeepsPast last object (called_object object id kind now)
call_added last object id kind now =
    let new = new_call id kind now in
    let wider : Object = record object { calls = object.calls ++ new ∷ [] } in
    past_twice last last object wider (called_object object id kind now) (le_refl last)
    (calls_changed last object (object.calls ++ new ∷ []) object.mail
    (λ index call at. same_call (object.calls ++ new ∷ []) index call (get_push object.calls new call index at)))
    (phase_added last wider (length object.calls) new Next (base_of object) now empty_piece (get_end object.calls new))

move_added : (last : ℕ) (object : Object) (id : ℕ) (layout : Layout) (now : ℕ) → KeepsPast last object (moving_object object id layout now)
move_added last object id layout now =
    let new = new_call id Move now in
    let result = moving_object object id layout now in
    let wider : Object = record object {
      layouts = object.layouts ++ layout ∷ [];
      banks = result.banks;
      calls = object.calls ++ new ∷ [];
    } in
    past_twice last last object wider result (le_refl last)
    (record {
      positions = (let e = length_push object.layouts layout in omega arith);
      layouts = λ p h. get_or_append_left object.layouts (layout ∷ []) no_layout p h;
      places = longer object.banks _;
      banks = λ p i h. subst (λ b. SameBefore (bank_at object p i) b (suc last))
          (sym (ap (λ l. get_or l i no_bank) (get_or_append_left object.banks _ [] p h)))
          (bank_same (bank_at object p i) (suc last));
      calls = λ index call at. same_call (object.calls ++ new ∷ []) index call (get_push object.calls new call index at);
    })
    (phase_added last wider (length object.calls) new (Spread Pending) _ now empty_piece (get_end object.calls new))
  where
    longer : {A : Type 0} (xs ys : List A) → length xs ≤ length (xs ++ ys)
    longer [] ys = omega arith
    longer (x ∷ xs) ys = let rest = longer xs ys in omega arith

advanced : (fragment : Code) (last : ℕ) (object : Object) (index : ℕ) (call : Call) (now : ℕ) → slice_get object.calls index ≡ Some call →
    KeepsPast last object (advanced_object fragment object index call now)
advanced fragment last object index call now at = go (due_of object index call)
  where
    go : (o : Option (Kind × ℕ)) → KeepsPast last object (begun_object fragment object index call o now)
    go None = past_same last object
    go (Some next) = phase_added last object index call next.0 next.1 now (sent_pieces fragment object call next.1) at

mail_changed : (last : ℕ) (object : Object) (mail : List Message) → KeepsPast last object (record object { mail = mail })
mail_changed last object mail =
    calls_changed last object object.calls mail (λ index call at. same_call object.calls index call at)

again : (fragment : Code) (last : ℕ) (object : Object) (call : Call) (o : Option Phase) →
    KeepsPast last object (asked_again fragment object call o)
again fragment last object call None = past_same last object
again fragment last object call (Some phase) = mail_changed last object (asked_again fragment object call (Some phase)).mail

supplied : (fragment : Code) (last : ℕ) (object : Object) (index : ℕ) (call : Call) (now : ℕ) (o : Option Phase) →
    slice_get object.calls index ≡ Some call → KeepsPast last object (supplied_by fragment object index call now o)
supplied fragment last object index call now None at = past_same last object
supplied fragment last object index call now (Some phase) at = go (is_some phase.end)
  where
    go : (b : Bool) → KeepsPast last object
        (cond b (advanced_object fragment object index call now) (asked_again fragment object call (Some phase)))
    go true = advanced fragment last object index call now at
    go false = again fragment last object call (Some phase)

served : (last : ℕ) (object : Object) (place : ℕ) (message : Message) (b : Body) (now : ℕ) → last < now →
    KeepsPast last object (served_by object place message b now)
served last object place message (body.Request asked) now less = handled last object place message asked now less
served last object place message (body.Reply kind made) now less = past_same last object

took : (last : ℕ) (object : Object) (mail : List Message) (message : Message) (now : ℕ) →
    KeepsPast last object (record object {
      calls = taken_calls object.calls message now (slice_get object.calls (index_by_id object.calls message.call));
      mail = mail;
    })
took last object mail message now = go (slice_get object.calls (index_by_id object.calls message.call)) refl
  where
    go : (o : Option Call) → slice_get object.calls (index_by_id object.calls message.call) ≡ o →
        KeepsPast last object (record object { calls = taken_calls object.calls message now o; mail = mail })
    go None e = mail_changed last object mail
    go (Some call) e =
        calls_changed last object (set object.calls (index_by_id object.calls message.call) (taking_call message now call)) mail
        (changed_call object.calls (index_by_id object.calls message.call) call (taking_call message now call) e refl refl
        (phases_taking call.phases message now))

taken : (last : ℕ) (object : Object) (place : ℕ) (message : Message) (b : Body) (now : ℕ) →
    KeepsPast last object (taken_by object place message b now)
taken last object place message (body.Request asked) now = past_same last object
taken last object place message (body.Reply kind made) now =
    took last object (taken_by object place message (body.Reply kind made) now).mail message now

-- where the call is there
on_the_call : (last : ℕ) (object : Object) (o : Option Call) (change : Call → Object) →
    ((call : Call) → o ≡ Some call → KeepsPast last object (change call)) → KeepsPast last object (on_call object o change)
on_the_call last object None change each = past_same last object
on_the_call last object (Some call) change each = each call refl

on_the_message : (last : ℕ) (object : Object) (o : Option Message) (change : Message → Object) →
    ((message : Message) → KeepsPast last object (change message)) → KeepsPast last object (on_message object o change)
on_the_message last object None change each = past_same last object
on_the_message last object (Some message) change each = each message

-- any step keeps what was before
step_keeps : (fragment : Code) (last : ℕ) (object : Object) (step : Step) (now : ℕ) → last < now →
    KeepsPast last object (stepped fragment step now object)
step_keeps fragment last object (Step.CallRead id) now less = call_added last object id Read now
step_keeps fragment last object (Step.CallWrite id value) now less = call_added last object id (Write value) now
step_keeps fragment last object (Step.CallMove id layout) now less = move_added last object id layout now
step_keeps fragment last object (Step.Advance index) now less =
    on_the_call last object (slice_get object.calls index) _ (λ call at. advanced fragment last object index call now at)
step_keeps fragment last object (Step.Again index) now less =
    on_the_call last object (slice_get object.calls index) _ (λ call at. advanced fragment last object index call now at)
step_keeps fragment last object (Step.Supply index) now less =
    on_the_call last object (slice_get object.calls index) _
    (λ call at. supplied fragment last object index call now (current_phase call.phases) at)
step_keeps fragment last object (Step.Post index) now less =
    on_the_call last object (slice_get object.calls index) _ (λ call at. again fragment last object call (current_phase call.phases))
step_keeps fragment last object (Step.Settle index value) now less =
    on_the_call last object (slice_get object.calls index) _ (λ call at.
    let new : Call = record call { settled = Some value } in
    calls_changed last object (set object.calls index new) object.mail
    (changed_call object.calls index call new at refl refl (phases_same call.phases)))
step_keeps fragment last object (Step.AnswerCall index) now less =
    on_the_call last object (slice_get object.calls index) _ (λ call at.
    let new : Call = record call { answered = Some now } in
    calls_changed last object (set object.calls index new) object.mail
    (changed_call object.calls index call new at refl refl (phases_same call.phases)))
step_keeps fragment last object (Step.Serve place) now less =
    on_the_message last object (slice_get object.mail place) _ (λ message. served last object place message message.body now less)
step_keeps fragment last object (Step.Take place) now less =
    on_the_message last object (slice_get object.mail place) _ (λ message. taken last object place message message.body now)
step_keeps fragment last object (Step.Lose place) now less =
    mail_changed last object (stepped fragment (Step.Lose place) now object).mail
step_keeps fragment last object (Step.Repeat place) now less =
    on_the_message last object (slice_get object.mail place) _ (λ message. mail_changed last object (object.mail ++ message ∷ []))
step_keeps fragment last object Step.Retire now less = retired last object now less

-- and so do several
pub run_rises : (fragment : Code) (steps : List (Step × ℕ)) (last end : ℕ) (object : Object) →
    MayRunNumbered fragment steps last end object → last ≤ end
run_rises fragment [] last end object may = may
run_rises fragment (step ∷ steps) last end object may =
    let first = may.0 in
    let rest = run_rises fragment steps step.1 end (stepped fragment step.0 step.1 object) may.2 in omega arith

pub run_keeps : (fragment : Code) (steps : List (Step × ℕ)) (last end : ℕ) (object : Object) →
    MayRunNumbered fragment steps last end object → KeepsPast last object (run_numbered fragment steps object)
run_keeps fragment [] last end object may = past_same last object
run_keeps fragment (step ∷ steps) last end object may =
    let less : last < step.1 = may.0 in
    past_twice last step.1 object (stepped fragment step.0 step.1 object) (run_numbered fragment (step ∷ steps) object) (omega arith)
    (step_keeps fragment last object step.0 step.1 less)
    (run_keeps fragment steps step.1 end (stepped fragment step.0 step.1 object) may.2)
