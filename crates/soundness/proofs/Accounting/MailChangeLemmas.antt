-- What each step adds to messages, and takes from them.
use Rattle.std.proofs.Common.{◌≡◌, ℕ, zero, suc, ◌+◌, Bool, true, false, cond, List, []}
use Rattle.std.proofs.Common.{◌∷◌, Option, Some, None, is_some, refl, ap, arith, slice_get}
use Rattle.std.specs.List.{remove}
use Rattle.bank.specs.declared.kind.Kind.{Kind}
use Rattle.mail.specs.declared.message.Message.{Message}
use Rattle.mail.specs.declared.message.Body.{Body}
use Rattle.mail.specs.Message.{body_bytes, message_bytes}
use Rattle.mail.specs.Mail.{mail_bytes}
use Rattle.mail.specs.Phase.{Phase}
use Rattle.record.specs.declared.call.CallKind.TheVariants.{Read, Write}
use Rattle.record.specs.Records.{Call, Object}
use Rattle.record.specs.Legal.{due_of}
use Rattle.record.specs.Fragments.{Code}
use Rattle.record.specs.Accounts.{mailed, some_bytes, reply_bytes, due_bytes, again_bytes}
use Rattle.record.specs.Accounts.{supply_bytes, mailed_by, asked_bytes, told_bytes, unmailed_by}
use Rattle.record.specs.Sending.{sent_pieces}
use Rattle.record.specs.Steps.{begun_object, advanced_object, settled_object}
use Rattle.record.specs.Steps.{answered_object, served_by, taken_by, lost_object, repeated_object}
use Rattle.record.specs.Steps.{asked_again, supplied_by, supplied_object, Step, on_call, on_message, stepped}
use Rattle.record.specs.Wants.{current_phase}
use Rattle.mail.specs.declared.message.Body.TheVariants as body
use Rattle.soundness.proofs.Accounting.MailAfterStepLemmas.{mailed-handled, mailed-with_phase, mailed-called, mailed-moving}
use Rattle.soundness.proofs.Accounting.MailAfterStepLemmas.{mailed-asked_again, mailed-repeated}
use Rattle.soundness.proofs.Accounting.MessageBytesLemmas.{mail-cons, mail-remove}

-- Mail

mail-remove_none : (mail : List Message) (place : ℕ) → slice_get mail place ≡ None →
    mail_bytes (remove mail place) ≡ mail_bytes mail
mail-remove_none (message ∷ mail) zero none = absurd (cc)
mail-remove_none (message ∷ mail) (suc place) none =
    let rest = mail-remove_none mail place none in
    omega (arith, mail-cons message (remove mail place), mail-cons message mail, rest)
mail-remove_none [] zero none = refl
mail-remove_none [] (suc place) none = refl

mailed-begun : (fragment : Code) (object : Object) (index : ℕ) (call : Call) (next : Option (Kind × ℕ)) (now : ℕ) →
    mailed (begun_object fragment object index call next now) + 0 ≡ mailed object + due_bytes fragment object call next
mailed-begun fragment object index call None now = refl
mailed-begun fragment object index call (Some next) now =
    let e = mailed-with_phase object index call next.0 next.1 now (sent_pieces fragment object call next.1) in omega arith

mailed-again : (fragment : Code) (object : Object) (call : Call) (phase : Option Phase) →
    mailed (asked_again fragment object call phase) + 0 ≡ mailed object + again_bytes fragment object call phase
mailed-again fragment object call None = refl
mailed-again fragment object call (Some phase) = let e = mailed-asked_again fragment object call phase in omega arith

mailed-supplied : (fragment : Code) (object : Object) (index : ℕ) (call : Call) (now : ℕ) (phase : Option Phase) →
    mailed (supplied_by fragment object index call now phase) + 0 ≡ mailed object + supply_bytes fragment object index call phase
mailed-supplied fragment object index call now None = refl
mailed-supplied fragment object index call now (Some phase) = go (is_some phase.end)
  where
    go : (b : Bool) → mailed (cond b (advanced_object fragment object index call now) (asked_again fragment object call (Some phase)))
        + 0 ≡ mailed object
        + cond b (due_bytes fragment object call (due_of object index call)) (again_bytes fragment object call (Some phase))
    go true = mailed-begun fragment object index call (due_of object index call) now
    go false = mailed-again fragment object call (Some phase)

mailed-on_call : (object : Object) (o : Option Call) (change : Call → Object) (bytes : Call → ℕ) →
    ((call : Call) → mailed (change call) + 0 ≡ mailed object + bytes call) →
    mailed (on_call object o change) + 0 ≡ mailed object + some_bytes o bytes
mailed-on_call object None change bytes each = refl
mailed-on_call object (Some call) change bytes each = each call

mailed-unchanged : (object : Object) (o : Option Call) (change : Call → Object) →
    ((call : Call) → mailed (change call) ≡ mailed object) → mailed (on_call object o change) + 0 ≡ mailed object + 0
mailed-unchanged object None change each = refl
mailed-unchanged object (Some call) change each = let e = each call in omega arith

mailed-taken_by : (object : Object) (place : ℕ) (message : Message) (now : ℕ) → slice_get object.mail place ≡ Some message →
    (b : Body) → message.body ≡ b → mailed (taken_by object place message b now) + told_bytes b ≡ mailed object + 0
mailed-taken_by object place message now at (body.Request asked) is = refl
mailed-taken_by object place message now at (body.Reply kind made) is =
    let size = ap body_bytes is in let rest = mail-remove object.mail place message at in omega arith

mailed-served_by : (object : Object) (place : ℕ) (message : Message) (now : ℕ) →
    slice_get object.mail place ≡ Some message → (b : Body) → message.body ≡ b →
    mailed (served_by object place message b now) + asked_bytes b ≡ mailed object + reply_bytes object message b
mailed-served_by object place message now at (body.Request asked) is = mailed-handled object place message asked now at is
mailed-served_by object place message now at (body.Reply kind made) is = refl

-- What leaves the mail by a step and what comes make up its change
pub mailed-stepped : (fragment : Code) (object : Object) (now : ℕ) (s : Step) →
    mailed (stepped fragment s now object) + unmailed_by object s ≡ mailed object + mailed_by fragment object s
mailed-stepped fragment object now (Step.CallRead id) = let e = mailed-called object id Read now in omega arith
mailed-stepped fragment object now (Step.CallWrite id value) = let e = mailed-called object id (Write value) now in omega arith
mailed-stepped fragment object now (Step.CallMove id layout) = let e = mailed-moving object id layout now in omega arith
mailed-stepped fragment object now (Step.Advance index) =
    mailed-on_call object (slice_get object.calls index) (λ call. advanced_object fragment object index call now)
    (λ call. due_bytes fragment object call (due_of object index call))
    (λ call. mailed-begun fragment object index call (due_of object index call) now)
mailed-stepped fragment object now (Step.Again index) =
    mailed-on_call object (slice_get object.calls index) (λ call. advanced_object fragment object index call now)
    (λ call. due_bytes fragment object call (due_of object index call))
    (λ call. mailed-begun fragment object index call (due_of object index call) now)
mailed-stepped fragment object now (Step.Supply index) =
    mailed-on_call object (slice_get object.calls index) (λ call. supplied_object fragment object index call now)
    (λ call. supply_bytes fragment object index call (current_phase call.phases))
    (λ call. mailed-supplied fragment object index call now (current_phase call.phases))
mailed-stepped fragment object now (Step.Post index) =
    mailed-on_call object (slice_get object.calls index) (λ call. asked_again fragment object call (current_phase call.phases))
    (λ call. again_bytes fragment object call (current_phase call.phases))
    (λ call. mailed-again fragment object call (current_phase call.phases))
mailed-stepped fragment object now (Step.Settle index value) =
    mailed-unchanged object (slice_get object.calls index) (λ call. settled_object object index call value) (λ call. refl)
mailed-stepped fragment object now (Step.AnswerCall index) =
    mailed-unchanged object (slice_get object.calls index) (λ call. answered_object object index call now) (λ call. refl)
mailed-stepped fragment object now (Step.Serve place) = found (slice_get object.mail place) refl
  where
    found : (o : Option Message) → slice_get object.mail place ≡ o →
        mailed (on_message object o (λ message. served_by object place message message.body now)) + some_bytes o
        (λ message. asked_bytes message.body) ≡ mailed object + some_bytes o (λ message. reply_bytes object message message.body)
    found None at = refl
    found (Some message) at = mailed-served_by object place message now at message.body refl
mailed-stepped fragment object now (Step.Take place) = found (slice_get object.mail place) refl
  where
    found : (o : Option Message) → slice_get object.mail place ≡ o →
        mailed (on_message object o (λ message. taken_by object place message message.body now))
        + some_bytes o (λ message. told_bytes message.body) ≡ mailed object + 0
    found None at = refl
    found (Some message) at = mailed-taken_by object place message now at message.body refl
mailed-stepped fragment object now (Step.Lose place) = found (slice_get object.mail place) refl
  where
    found : (o : Option Message) → slice_get object.mail place ≡ o →
        mailed (lost_object object place) + some_bytes o message_bytes ≡ mailed object + 0
    found None at = let e = mail-remove_none object.mail place at in omega arith
    found (Some message) at = let e = mail-remove object.mail place message at in omega arith
mailed-stepped fragment object now (Step.Repeat place) = found (slice_get object.mail place)
  where
    found : (o : Option Message) →
        mailed (on_message object o (λ message. repeated_object object message)) + 0 ≡ mailed object + some_bytes o message_bytes
    found None = refl
    found (Some message) = let e = mailed-repeated object message in omega arith
mailed-stepped fragment object now Step.Retire = refl
