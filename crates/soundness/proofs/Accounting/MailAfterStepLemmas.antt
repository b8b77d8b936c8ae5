-- What each step leaves in messages.
use Rattle.std.proofs.Common.{◌≡◌, ℕ, pred, ◌+◌, [], ◌∷◌, Option}
use Rattle.std.proofs.Common.{◌++◌, length, Some, ap, ◌∙◌, arith, slice_get}
use Rattle.tag.specs.declared.tag.Tag.{Tag}
use Rattle.layout.specs.Layout.{Layout}
use Rattle.piece.specs.declared.piece.Piece.{Piece}
use Rattle.bank.specs.Bank.{empty_piece}
use Rattle.bank.specs.Answer.{answer_bytes}
use Rattle.bank.specs.Serve.{answer_to, reply_to}
use Rattle.bank.specs.declared.kind.Kind.{Kind}
use Rattle.bank.specs.declared.kind.Kind.TheVariants.{Next, Spread, PreWrite}
use Rattle.bank.specs.declared.request.Request.{Request}
use Rattle.mail.specs.declared.message.Message.{Message}
use Rattle.mail.specs.Message.{request_bytes, body_bytes, message_bytes, answered}
use Rattle.mail.specs.Mail.{mail_bytes}
use Rattle.mail.specs.Phase.{Phase}
use Rattle.bank.specs.declared.status.Status.TheVariants.{Pending}
use Rattle.record.specs.declared.call.CallKind.{CallKind}
use Rattle.record.specs.declared.call.CallKind.TheVariants.{Move}
use Rattle.record.specs.Records.{Call, Object, layout_at, bank_at, base_of}
use Rattle.record.specs.Fragments.{Code}
use Rattle.record.specs.Accounts.{stored, mailed, member_sum}
use Rattle.record.specs.Sending.{sent_pieces, request_to}
use Rattle.record.specs.Steps.{new_call, with_phase, opened_banks, opened_object}
use Rattle.record.specs.Steps.{called_object, moving_object, handled_object}
use Rattle.record.specs.Steps.{repeated_object, asked_again}
use Rattle.record.specs.Sending.{missing_requests}
use Rattle.mail.specs.declared.message.Body.TheVariants as body
use Rattle.soundness.proofs.Accounting.MessageBytesLemmas.{mail-append, mail-one, mail-set, requests_bytes, none_sum, no_piece}
use Rattle.soundness.proofs.Accounting.StoredBytesLemmas.{position-opened}

-- an object that was just opened stores nothing, and nothing waits
pub stored-opened : (layout : Layout) (delta : Option ℕ) (now server : ℕ) → stored (opened_object layout delta now) server ≡ 0
stored-opened layout delta now server = grind (arith, position-opened)

-- a request's bytes leave the mail, and its reply's come
pub mailed-handled : (object : Object) (place : ℕ) (message : Message) (asked : Request) (now : ℕ) →
    slice_get object.mail place ≡ Some message → message.body ≡ body.Request asked →
    mailed (handled_object object place message asked now) + request_bytes asked
    ≡ mailed object + answer_bytes (answer_to (bank_at object message.position message.member) asked)
mailed-handled object place message asked now at is =
    subst_right (mailed (handled_object object place message asked now)) (message_bytes message) (request_bytes asked)
    (mailed object + answer_bytes (answer_to (bank_at object message.position message.member) asked)) (ap body_bytes is)
    (mail-set object.mail place message (answered message (reply_to (bank_at object message.position message.member) asked now)) at)
  where
    subst_right : (a b c d : ℕ) → b ≡ c → a + b ≡ d → a + c ≡ d
    subst_right a b c d e f = omega arith

-- a phase that begins adds the lengths of the pieces that it sends
pub mailed-with_phase : (object : Object) (index : ℕ) (call : Call) (kind : Kind) (position now : ℕ) (piece : ℕ → Piece) →
    mailed (with_phase object index call kind position now piece)
    ≡ mailed object + member_sum (λ i. request_bytes (request_to kind (piece i))) 0 (length (layout_at object position).members)
mailed-with_phase object index call kind position now piece = grind (arith, mail-append, requests_bytes)

nothing_more : (a b c : ℕ) → a ≡ b + c → c ≡ 0 → a ≡ b
nothing_more a b c e none = omega arith

pub mailed-plain : (object : Object) (index : ℕ) (call : Call) (kind : Kind) (position now : ℕ) (piece : ℕ → Piece) →
    ((tag : Tag) → kind ≡ PreWrite tag → ⊥) → mailed (with_phase object index call kind position now piece) ≡ mailed object
mailed-plain object index call kind position now piece plain =
    let count = length (layout_at object position).members in
    nothing_more (mailed (with_phase object index call kind position now piece)) (mailed object)
    (member_sum (λ i. request_bytes (request_to kind (piece i))) 0 count)
    (mailed-with_phase object index call kind position now piece)
    (none_sum (λ i. request_bytes (request_to kind (piece i))) (λ i. no_piece kind plain (piece i)) 0 count)

-- calls add nothing
pub mailed-called : (object : Object) (id : ℕ) (kind : CallKind) (now : ℕ) → mailed (called_object object id kind now) ≡ mailed object
mailed-called object id kind now =
    mailed-plain (record object { calls = object.calls ++ new_call id kind now ∷ [] }) (length object.calls)
    (new_call id kind now) Next (base_of object) now empty_piece
    (λ tag e. cc)

pub mailed-moving : (object : Object) (id : ℕ) (layout : Layout) (now : ℕ) → mailed (moving_object object id layout now) ≡ mailed object
mailed-moving object id layout now =
    mailed-plain
    (record object {
      layouts = object.layouts ++ layout ∷ [];
      banks = object.banks ++ opened_banks layout.members 0 object.delta now ∷ [];
      calls = object.calls ++ new_call id Move now ∷ [];
    }) (length object.calls) (new_call id Move now) (Spread Pending) (pred (length object.layouts)) now empty_piece (λ tag e. cc)

-- requests that go out again are some of a phase's requests
pub mailed-asked_again : (fragment : Code) (object : Object) (call : Call) (phase : Phase) →
    mailed (asked_again fragment object call (Some phase))
    ≡ mailed object + mail_bytes (missing_requests object phase (sent_pieces fragment object call phase.position))
mailed-asked_again fragment object call phase = grind (arith, mail-append)

-- a message that is repeated comes again
pub mailed-repeated : (object : Object) (message : Message) →
    mailed (repeated_object object message) ≡ mailed object + message_bytes message
mailed-repeated object message = mail-append object.mail (message ∷ []) ∙ ap (λ n. mailed object + n) (mail-one message)
