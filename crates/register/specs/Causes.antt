-- Why each step is refused: the first cause that applies, in the order of refusals. `NoMemory` comes after all these.
use Rattle.std.specs.Prelude.{ℕ, zero, suc, ◌+◌, Bool, true, false, not, nat_le, nat_lt, is_some}
use Rattle.std.specs.Prelude.{if◌then◌else◌, List, length, Option, Some, None, slice_get, pred}
use Rattle.tag.specs.declared.limits.TheConstants.{LONGEST_VALUE, MOST_BYTES, MOST_CALLS, MOST_PHASES, MOST_POSITIONS}
use Rattle.tag.specs.declared.limits.TheConstants.{MOST_STEPS}
use Rattle.tag.specs.declared.refusal.Refusal.{Refusal}
use Rattle.tag.specs.declared.refusal.Refusal.TheVariants.{TooLong, NoCall, NotNow, NoMessage, WrongCode, MovePending}
use Rattle.tag.specs.declared.refusal.Refusal.TheVariants.{Collected, Full}
use Rattle.layout.specs.Layout.{Layout}
use Rattle.encoder.specs.Fragment.{fragment}
use Rattle.encoder.specs.Coded.{Coding}
use Rattle.decoder.specs.Decoded.{Decoding}
use Rattle.mail.specs.declared.message.Message.{Message}
use Rattle.mail.specs.declared.message.Body.{Body}
use Rattle.mail.specs.declared.message.Body.TheVariants as body
use Rattle.mail.specs.Message.{request_bytes}
use Rattle.mail.specs.Mail.{mail_cause, repeated}
use Rattle.mail.specs.Phase.{Phase}
use Rattle.record.specs.declared.stage.Want.{Want}
use Rattle.record.specs.declared.stage.Want.TheVariants as want
use Rattle.record.specs.Records.{Call, Object, layout_at}
use Rattle.record.specs.Wants.{current_phase, want_of}
use Rattle.record.specs.Steps.{Step, stepped}
use Rattle.record.specs.Sending.{sent_value, value_or_empty}
use Rattle.register.specs.Position.{all_bytes}
use Rattle.register.specs.Kept.{has_open_move}
use Rattle.register.specs.State.{next_id}
use Rattle.register.specs.Coding.{is_pre_write, pieces_due, is_coded_for, is_decoded_from}

-- this refusal unless the condition holds, and otherwise the later cause
abbrev pub unless : Bool → Refusal → Option Refusal → Option Refusal
unless holds refusal later = if holds then later else Some refusal

-- Full unless the number of the step is within the limit of steps, and otherwise the later cause
abbrev pub if_step : (now : ℕ) → Option Refusal → Option Refusal
if_step now later = unless (nat_le now MOST_STEPS) Full later

-- the call of this number, counted from 1
abbrev pub call_at : Object → (number : ℕ) → Option Call
call_at object zero = None
call_at object (suc index) = slice_get object.calls index

-- NoCall if there is no call, and otherwise the later cause
abbrev pub if_call : Option Call → (Call → Option Refusal) → Option Refusal
if_call None cause = Some NoCall
if_call (Some call) cause = cause call

-- NoMessage if there is no message, and otherwise the later cause
abbrev pub if_message : Option Message → (Message → Option Refusal) → Option Refusal
if_message None cause = Some NoMessage
if_message (Some message) cause = cause message

-- Messages

-- why a message with this body is not served: it is a reply, or there is no room for the step or the request's piece
abbrev pub served_cause : (now : ℕ) → Object → Body → Option Refusal
served_cause now object (body.Request asked) =
    if_step now (unless (nat_le (all_bytes object.banks + request_bytes asked) MOST_BYTES) Full None)
served_cause now object (body.Reply kind made) = Some NotNow

-- why the message at a place is not served
abbrev pub serve_cause : (now : ℕ) → Object → (place : ℕ) → Option Refusal
serve_cause now object place = if_message (slice_get object.mail place)
    (λ message. served_cause now object message.body)

-- why a message with this body is not taken: it is a request, or the step is beyond the limit of steps
abbrev pub taken_cause : (now : ℕ) → Body → Option Refusal
taken_cause now (body.Request asked) = Some NotNow
taken_cause now (body.Reply kind made) = if_step now None

-- why the message at a place is not taken
abbrev pub take_cause : (now : ℕ) → Object → (place : ℕ) → Option Refusal
take_cause now object place = if_message (slice_get object.mail place) (λ message. taken_cause now message.body)

-- why the message at a place is not lost
abbrev pub lose_cause : (now : ℕ) → Object → (place : ℕ) → Option Refusal
lose_cause now object place = if_message (slice_get object.mail place) (λ message. if_step now None)

-- why the message at a place is not repeated
abbrev pub repeat_cause : (now : ℕ) → Object → (place : ℕ) → Option Refusal
repeat_cause now object place = if_message (slice_get object.mail place)
    (λ message. if_step now (mail_cause (repeated object.mail place)))

-- New calls

-- Full unless there is room for one more step, one more call, and the messages that the step posts
abbrev pub new_call_cause : Step → (now : ℕ) → Object → Option Refusal
new_call_cause step now object =
    if_step now (unless (nat_lt (length object.calls) MOST_CALLS) Full
    (mail_cause (stepped fragment step now object).mail))

-- why a read does not begin
abbrev pub read_cause : (now : ℕ) → Object → Option Refusal
read_cause now object = new_call_cause (Step.CallRead (next_id object)) now object

-- why a write of this value does not begin
abbrev pub write_cause : List ℕ → (now : ℕ) → Object → Option Refusal
write_cause value now object = unless (nat_le (length value) LONGEST_VALUE) TooLong
    (new_call_cause (Step.CallWrite (next_id object) value) now object)

-- why a move to this layout does not begin
abbrev pub move_cause : Layout → (now : ℕ) → Object → Option Refusal
move_cause layout now object =
    unless (not (has_open_move object.calls)) MovePending
    (unless (nat_lt (length object.layouts) MOST_POSITIONS) Full
    (new_call_cause (Step.CallMove (next_id object) layout) now object))

-- Calls that go on

-- whether a call wants to begin its next phase
abbrev pub is_advance : Want → Bool
is_advance want.Advance = true
is_advance _ = false

-- whether a call wants to be restarted
abbrev pub is_again : Want → Bool
is_again want.Again = true
is_again _ = false

-- the later cause if the call wants to settle a value, Collected if its fetch lacks pieces, and otherwise NotNow
abbrev pub if_settle : Want → Option Refusal → Option Refusal
if_settle (want.Settle k len) later = later
if_settle want.Again later = Some Collected
if_settle _ later = Some NotNow

-- whether a call wants to be answered
abbrev pub is_answer : Want → Bool
is_answer want.Answer = true
is_answer _ = false

-- whether a call wants replies
abbrev pub is_replies : Want → Bool
is_replies want.Replies = true
is_replies _ = false

-- Full unless there is room for one more step, one more phase of the call, and the messages that the step posts
abbrev pub new_phase_cause : Step → (now : ℕ) → Object → Call → Option Refusal
new_phase_cause step now object call =
    if_step now (unless (nat_lt (length call.phases) MOST_PHASES) Full
    (mail_cause (stepped fragment step now object).mail))

-- NoCall unless there is a call of this number
abbrev pub number_cause : Object → (number : ℕ) → Option Refusal
number_cause object number = if_call (call_at object number) (λ call. None)

-- whether a call that wants this is to begin the phase that is due: as an advance, or if `anew` as a restart
abbrev pub wants_due : (anew : Bool) → Want → Bool
wants_due false wanted = is_advance wanted
wants_due true wanted = is_again wanted

-- the step that begins the phase that is due: as an advance, or if `anew` as a restart
abbrev pub due_step : (anew : Bool) → (index : ℕ) → Step
due_step false index = Step.Advance index
due_step true index = Step.Again index

-- why a call does not begin the phase that is due: as an advance, or if `anew` as a restart
abbrev pub due_cause : (anew : Bool) → (now : ℕ) → Object → (number : ℕ) → Option Refusal
due_cause anew now object number =
    if_call (call_at object number) (λ call. unless (wants_due anew (want_of object (pred number) call)) NotNow
    (new_phase_cause (due_step anew (pred number)) now object call))

-- why a call does not begin its next phase
abbrev pub advance_cause : (now : ℕ) → Object → (number : ℕ) → Option Refusal
advance_cause now object number = due_cause false now object number

-- why a call is not restarted
abbrev pub again_cause : (now : ℕ) → Object → (number : ℕ) → Option Refusal
again_cause now object number = due_cause true now object number

-- whether there is a phase, and it sends no pieces
abbrev pub is_plain : Option Phase → Bool
is_plain None = false
is_plain (Some phase) = not (is_pre_write phase.kind)

-- whether a call that wants this may resend the requests of its current phase by a post
abbrev pub may_post : Want → Option Phase → Bool
may_post wanted phase = if is_replies wanted then is_plain phase else false

-- why a call does not resend the requests of its current phase by a post
abbrev pub post_cause : (now : ℕ) → Object → (number : ℕ) → Option Refusal
post_cause now object number =
    if_call (call_at object number) (λ call. unless
    (may_post (want_of object (pred number) call) (current_phase call.phases)) NotNow
    (if_step now (mail_cause (stepped fragment (Step.Post (pred number)) now object).mail)))

-- whether there is a phase, and a quorum has replied to it
abbrev pub is_replied : Option Phase → Bool
is_replied None = false
is_replied (Some phase) = is_some phase.end

-- Full unless there is room for a supply: for a new phase and its messages, or for resent requests of the current phase
abbrev pub supply_room_cause : (now : ℕ) → Object → (index : ℕ) → Call → Option Refusal
supply_room_cause now object index call =
    if is_replied (current_phase call.phases) then new_phase_cause (Step.Supply index) now object call
    else if_step now (mail_cause (stepped fragment (Step.Supply index) now object).mail)

-- why a call is not supplied for this position: it sends no pieces, `coded` is wrong for it, or there is no room
abbrev pub supplied_cause : (now : ℕ) → Object → (index : ℕ) → Call → Coding → Option ℕ → Option Refusal
supplied_cause now object index call coded None = Some NotNow
supplied_cause now object index call coded (Some position) =
    unless (is_coded_for (layout_at object position) (value_or_empty (sent_value call.kind call.settled)) coded)
    WrongCode
    (supply_room_cause now object index call)

-- why a call is not supplied with this encoded value
abbrev pub supply_cause : (now : ℕ) → Object → (number : ℕ) → Coding → Option Refusal
supply_cause now object number coded =
    if_call (call_at object number) (λ call. supplied_cause now object (pred number) call coded
    (pieces_due object (pred number) call))

-- why a call is not supplied with its own value, encoded for its own layout: it sends none, or a limit is met
abbrev pub supplying_cause : (now : ℕ) → Object → (number : ℕ) → Option Refusal
supplying_cause now object number =
    if_call (call_at object number) (λ call. unless (is_some (pieces_due object (pred number) call)) NotNow
    (supply_room_cause now object (pred number) call))

-- why the value that a call is to encode is not returned: there is no such call, or it sends no pieces
abbrev pub value_cause : Object → (number : ℕ) → Option Refusal
value_cause object number = if_call (call_at object number)
    (λ call. unless (is_some (pieces_due object (pred number) call)) NotNow None)

-- why the pieces that a call is to decode are not returned: there is no such call, or it wants no value
abbrev pub pieces_cause : Object → (number : ℕ) → Option Refusal
pieces_cause object number = if_call (call_at object number)
    (λ call. if_settle (want_of object (pred number) call) None)

-- whether the value was decoded from k pieces that this phase took
abbrev pub is_decoded_in : Object → Option Phase → Decoding → Bool
is_decoded_in object None decoded = false
is_decoded_in object (Some phase) decoded = is_decoded_from (layout_at object phase.position).k phase.replies decoded

-- why a call does not settle this decoded value
abbrev pub settle_cause : (now : ℕ) → Object → (number : ℕ) → Decoding → Option Refusal
settle_cause now object number decoded =
    if_call (call_at object number) (λ call. if_settle (want_of object (pred number) call)
    (unless (is_decoded_in object (current_phase call.phases) decoded) WrongCode (if_step now None)))

-- why a call is not answered
abbrev pub answer_cause : (now : ℕ) → Object → (number : ℕ) → Option Refusal
answer_cause now object number =
    if_call (call_at object number) (λ call. unless (is_answer (want_of object (pred number) call)) NotNow
    (if_step now None))
