-- The contracts that docs/trusted.md lists do not depend on this file; other contracts and proofs do.
-- What can be read from an object without a step.
use Rattle.std.specs.Prelude.{ℕ, pred, List, [], length, Option, Some, None, option_map, get_or, slice_get}
use Rattle.tag.specs.declared.tag.Tag.{Tag}
use Rattle.piece.specs.declared.piece.Piece.{Piece}
use Rattle.bank.specs.Bank.{Bank}
use Rattle.mail.specs.declared.message.Message.{Message}
use Rattle.mail.specs.declared.phase.Took.{Took}
use Rattle.mail.specs.declared.phase.Took.TheVariants as took
use Rattle.mail.specs.Phase.{Phase}
use Rattle.record.specs.declared.stage.Want.{Want}
use Rattle.record.specs.Records.{Call, Object, layout_at}
use Rattle.record.specs.Journals.{tag_of, operation_of, entry_value}
use Rattle.record.specs.Wants.{current_phase, want_of, viewed_tag}
use Rattle.record.specs.Sending.{sent_value, value_or_empty}
use Rattle.call.specs.declared.receipt.Receipt.{Receipt}
use Rattle.call.specs.declared.receipt.CallView.{CallView}
use Rattle.register.specs.Tracked.{took_call}
use Rattle.register.specs.Coding.{pieces_due, least_of}
use Rattle.register.specs.Causes.{call_at}

-- the outcome of taking this message, if there is a message
abbrev pub took_message : Object → Option Message → Took
took_message object None = took.Stale
took_message object (Some message) = took_call message (slice_get object.calls (pred message.call))

-- the outcome of taking the message at a place
abbrev pub took_at : Object → (place : ℕ) → Took
took_at object place = took_message object (slice_get object.mail place)

-- what the call of this number wants, if there is such a call
abbrev pub want_at : Object → (number : ℕ) → Option Want
want_at object number = option_map (λ call. want_of object (pred number) call) (call_at object number)

-- the value whose pieces a call sends to a position, with the k and the n of the position's layout
abbrev pub to_code : Object → Call → (position : ℕ) → List ℕ × ℕ × ℕ
to_code object call position = (
  value_or_empty (sent_value call.kind call.settled),
  (layout_at object position).k,
  length (layout_at object position).members,
)

-- the value whose pieces a call is to send, with k and n, if there is such a call and it sends pieces
abbrev pub coding_of : Object → (number : ℕ) → Option Call → Option (List ℕ × ℕ × ℕ)
coding_of object number None = None
coding_of object number (Some call) = option_map (to_code object call) (pieces_due object (pred number) call)

-- the value whose pieces the call of this number is to send, with k and n, if it sends pieces
abbrev pub coding_at : Object → (number : ℕ) → Option (List ℕ × ℕ × ℕ)
coding_at object number = coding_of object number (call_at object number)

-- the pieces from which a call is to decode its value, if there is such a call
abbrev pub pieces_of : Object → Option Call → List Piece
pieces_of object None = []
pieces_of object (Some call) = least_of object (current_phase call.phases)

-- the pieces from which the call of this number is to decode its value
abbrev pub fetched_pieces : Object → (number : ℕ) → List Piece
fetched_pieces object number = pieces_of object (call_at object number)

-- the receipt of a call that is answered at a step
abbrev pub receipt_of : (place number : ℕ) → (now : ℕ) → Call → Receipt
receipt_of place number now call = record {
  object = place;
  kind = operation_of call.kind;
  call = number;
  called = call.called;
  answered = now;
  value = entry_value call.kind (Some now) call.settled;
}

-- the receipt of the call of this number that is answered at a step
abbrev pub receipt_at : Object → (place number now : ℕ) → Option Receipt
receipt_at object place number now = option_map (receipt_of place number now) (call_at object number)

-- the view of a call that is in this phase
abbrev pub phase_view : Object → (number : ℕ) → Call → Phase → CallView
phase_view object number call phase = record {
  kind = operation_of call.kind;
  number = phase.number;
  phase = phase.kind;
  position = phase.position;
  replies = length phase.replies;
  quorum = phase.quorum;
  tag = viewed_tag object (pred number) call;
  want = want_of object (pred number) call;
}

-- the view of a call, if there is such a call
abbrev pub viewed : Object → (number : ℕ) → Option Call → Option CallView
viewed object number None = None
viewed object number (Some call) = option_map (phase_view object number call) (current_phase call.phases)

-- the view of the call of this number
abbrev pub view_at : Object → (number : ℕ) → Option CallView
view_at object number = viewed object number (call_at object number)

-- the value that a call writes, or has settled so far, if there is such a call
abbrev pub value_of : Option Call → Option (List ℕ)
value_of None = None
value_of (Some call) = sent_value call.kind call.settled

-- the value that the call of this number writes, or has settled so far
abbrev pub value_at : Object → (number : ℕ) → Option (List ℕ)
value_at object number = value_of (call_at object number)

-- the phases of a call, if there is such a call
abbrev pub phases_of : Option Call → List Phase
phases_of None = []
phases_of (Some call) = call.phases

-- the phases of the call of this number, the first one first
abbrev pub phases_at : Object → (number : ℕ) → List Phase
phases_at object number = phases_of (call_at object number)

-- the bank of a member of a position, if there is one
abbrev pub bank_there : Object → (position member : ℕ) → Option Bank
bank_there object position member = slice_get (get_or object.banks position []) member

-- the tag of a call, if there is such a call
abbrev pub tag_in : Object → (number : ℕ) → Option Call → Option Tag
tag_in object number None = None
tag_in object number (Some call) = tag_of object (pred number) call

-- the tag of the call of this number, once it has one
abbrev pub tag_at : Object → (number : ℕ) → Option Tag
tag_at object number = tag_in object number (call_at object number)
