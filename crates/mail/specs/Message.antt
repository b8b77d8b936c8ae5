-- Messages, and the number of bytes of the pieces in them.
use Rattle.std.specs.Prelude.{ℕ, length, Bool, true, false}
use Rattle.bank.specs.Answer.{answer_bytes}
use Rattle.bank.specs.Serve.{kind_of}
use Rattle.bank.specs.declared.kind.Kind.{Kind}
use Rattle.bank.specs.declared.reply.Answer.{Answer}
use Rattle.bank.specs.declared.reply.Answer.TheVariants as answer
use Rattle.bank.specs.declared.reply.Reply.{Reply}
use Rattle.bank.specs.declared.request.Request.{Request}
use Rattle.bank.specs.declared.request.Request.TheVariants as request
use Rattle.bank.specs.declared.status.Status.{Status}
use Rattle.bank.specs.declared.status.Status.TheVariants as status
use Rattle.mail.specs.declared.message.Message.{Message}
use Rattle.mail.specs.declared.message.Body.{Body}
use Rattle.mail.specs.declared.message.Body.TheVariants as body

-- the number of bytes of the piece in a request, or 0 if it has none
abbrev pub request_bytes : Request → ℕ
request_bytes (request.PreWrite tag piece) = length piece.bytes
request_bytes q = 0

-- the number of bytes of the piece in the body of a message, or 0 if it has none
abbrev pub body_bytes : Body → ℕ
body_bytes (body.Request q) = request_bytes q
body_bytes (body.Reply k r) = answer_bytes r.answer

-- the number of bytes of the piece in a message, or 0 if it has none
abbrev pub message_bytes : Message → ℕ
message_bytes m = body_bytes m.body

-- the kind of the request that a message is, or is the reply to
abbrev pub body_kind : Body → Kind
body_kind (body.Request q) = kind_of q
body_kind (body.Reply k r) = k

-- the message with the reply in place of its request
abbrev pub answered : Message → Reply → Message
answered m r = record m { body = body.Reply (body_kind m.body) r }

-- whether a message with this body is a request
abbrev pub is_request : Body → Bool
is_request (body.Request q) = true
is_request (body.Reply k r) = false

-- whether a pointer with this status names a next position
abbrev pub status_names_next : Status → Bool
status_names_next status.Unset = false
status_names_next status.Pending = true
status_names_next status.Final = true

-- whether a request says that the pointer is pending or final
abbrev pub request_names_next : Request → Bool
request_names_next (request.Spread found) = status_names_next found
request_names_next q = false

-- whether an answer says that the pointer is pending or final
abbrev pub answer_names_next : Answer → Bool
answer_names_next (answer.Pointer found) = status_names_next found
answer_names_next a = false

-- whether the body of a message says that the pointer is pending or final
abbrev pub names_next : Body → Bool
names_next (body.Request q) = request_names_next q
names_next (body.Reply k r) = answer_names_next r.answer
