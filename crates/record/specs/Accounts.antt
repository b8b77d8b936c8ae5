-- The byte accounts: how many bytes servers store and messages carry, and how each step changes this.
use Rattle.std.specs.Prelude.{ℕ, zero, suc, ◌+◌, ◌==◌, is_some, if◌then◌else◌}
use Rattle.std.specs.Prelude.{List, [], ◌∷◌, length, sum_by, get_or, Option, Some, None, slice_get}
use Rattle.layout.specs.Layout.{Layout}
use Rattle.bank.specs.Answer.{answer_bytes}
use Rattle.bank.specs.Bank.{Bank}
use Rattle.bank.specs.Bytes.{bank_bytes, added_bytes}
use Rattle.bank.specs.Serve.{answer_to, freed_bytes}
use Rattle.bank.specs.declared.kind.Kind.{Kind}
use Rattle.mail.specs.Mail.{mail_bytes}
use Rattle.mail.specs.Message.{request_bytes, message_bytes}
use Rattle.mail.specs.declared.message.Message.{Message}
use Rattle.mail.specs.declared.message.Body.{Body}
use Rattle.mail.specs.declared.message.Body.TheVariants as body
use Rattle.mail.specs.Phase.{Phase}
use Rattle.record.specs.Fragments.{Code}
use Rattle.record.specs.Legal.{due_of}
use Rattle.record.specs.Records.{Call, Object, layout_at, bank_at, base_of}
use Rattle.record.specs.Steps.{Step}
use Rattle.record.specs.Sending.{missing_requests, request_to, sent_pieces}
use Rattle.record.specs.Wants.{current_phase}

-- the number of bytes that a server stores in the banks of one position with these members
abbrev pub position_bytes : (server : ℕ) → List ℕ → List Bank → ℕ
position_bytes server [] banks = 0
position_bytes server (member ∷ members) [] = 0
position_bytes server (member ∷ members) (bank ∷ banks) =
    (if member == server then bank_bytes bank else 0) + position_bytes server members banks

-- the number of bytes that a server stores in the banks of all these positions
abbrev pub stored_bytes : (server : ℕ) → List Layout → List (List Bank) → ℕ
stored_bytes server [] banks = 0
stored_bytes server (layout ∷ layouts) [] = 0
stored_bytes server (layout ∷ layouts) (banks ∷ later) =
    position_bytes server layout.members banks + stored_bytes server layouts later

-- the number of bytes of the object's pieces that a server stores
abbrev pub stored : Object → (server : ℕ) → ℕ
stored object server = stored_bytes server object.layouts object.banks

-- the number of bytes of pieces that wait in the object's messages
abbrev pub mailed : Object → ℕ
mailed object = mail_bytes object.mail

-- the server that is this member of a position
abbrev pub server_at : Object → (position member : ℕ) → ℕ
server_at object position member = get_or (layout_at object position).members member 0

-- this number of bytes if the two servers are the same, and otherwise 0
abbrev pub for_server : (server other bytes : ℕ) → ℕ
for_server server other bytes = if other == server then bytes else 0

-- the sum of f over `count` members, from `member` on
abbrev pub member_sum : (ℕ → ℕ) → (member count : ℕ) → ℕ
member_sum f member zero = 0
member_sum f member (suc count) = f member + member_sum f (suc member) count

-- f of the value, or 0 if there is no value
abbrev pub some_bytes : {A : Type 0} → Option A → (A → ℕ) → ℕ
some_bytes None f = 0
some_bytes (Some x) f = f x

-- the number of bytes that serving a message with this body adds to what a server stores
abbrev pub stored_by_body : Object → Message → Body → (server : ℕ) → ℕ
stored_by_body object message (body.Request asked) server =
    for_server server (server_at object message.position message.member)
    (added_bytes (bank_at object message.position message.member) asked)
stored_by_body object message (body.Reply kind made) server = 0

-- the number of bytes that a step adds to what a server stores
abbrev pub stored_by : Object → Step → (server : ℕ) → ℕ
stored_by object (Step.Serve place) server =
    some_bytes (slice_get object.mail place) (λ message. stored_by_body object message message.body server)
stored_by object s server = 0

-- the number of bytes of the pieces that a server drops when it serves a message with this body
abbrev pub freed_by_body : Object → Message → Body → (now server : ℕ) → ℕ
freed_by_body object message (body.Request asked) now server =
    for_server server (server_at object message.position message.member)
    (freed_bytes (bank_at object message.position message.member) asked now)
freed_by_body object message (body.Reply kind made) now server = 0

-- the number of bytes that a server stores at the base
abbrev pub base_bytes_of : Object → (server : ℕ) → ℕ
base_bytes_of object server =
    position_bytes server (layout_at object (base_of object)).members (get_or object.banks (base_of object) [])

-- the number of bytes of all pieces in the banks of the base
abbrev pub base_bytes : Object → ℕ
base_bytes object = sum_by bank_bytes (get_or object.banks (base_of object) [])

-- the number of bytes of the pieces that a server drops in a step
abbrev pub freed_by : Object → Step → (now server : ℕ) → ℕ
freed_by object (Step.Serve place) now server =
    some_bytes (slice_get object.mail place) (λ message. freed_by_body object message message.body now server)
freed_by object Step.Retire now server = base_bytes_of object server
freed_by object s now server = 0

-- the number of bytes of the reply that serving a message with this body makes
abbrev pub reply_bytes : Object → Message → Body → ℕ
reply_bytes object message (body.Request asked) =
    answer_bytes (answer_to (bank_at object message.position message.member) asked)
reply_bytes object message (body.Reply kind made) = 0

-- the number of bytes that the phase which is due sends to all members together
abbrev pub due_bytes : Code → Object → Call → Option (Kind × ℕ) → ℕ
due_bytes fragment object call None = 0
due_bytes fragment object call (Some next) =
    member_sum (λ i. request_bytes (request_to next.0 (sent_pieces fragment object call next.1 i))) 0
    (length (layout_at object next.1).members)

-- the number of bytes of the requests of a phase that are resent
abbrev pub again_bytes : Code → Object → Call → Option Phase → ℕ
again_bytes fragment object call None = 0
again_bytes fragment object call (Some phase) =
    mail_bytes (missing_requests object phase (sent_pieces fragment object call phase.position))

-- the number of bytes that a supply sends: requests of the phase that is due, or resent requests of the current one
abbrev pub supply_bytes : Code → Object → (index : ℕ) → Call → Option Phase → ℕ
supply_bytes fragment object index call None = 0
supply_bytes fragment object index call (Some phase) =
    if is_some phase.end then due_bytes fragment object call (due_of object index call)
    else again_bytes fragment object call (Some phase)

-- the number of bytes that a step adds to the mail
abbrev pub mailed_by : Code → Object → Step → ℕ
mailed_by fragment object (Step.Advance index) =
    some_bytes (slice_get object.calls index)
    (λ call. due_bytes fragment object call (due_of object index call))
mailed_by fragment object (Step.Again index) =
    some_bytes (slice_get object.calls index)
    (λ call. due_bytes fragment object call (due_of object index call))
mailed_by fragment object (Step.Supply index) =
    some_bytes (slice_get object.calls index)
    (λ call. supply_bytes fragment object index call (current_phase call.phases))
mailed_by fragment object (Step.Post index) =
    some_bytes (slice_get object.calls index) (λ call. again_bytes fragment object call (current_phase call.phases))
mailed_by fragment object (Step.Serve place) =
    some_bytes (slice_get object.mail place) (λ message. reply_bytes object message message.body)
mailed_by fragment object (Step.Repeat place) = some_bytes (slice_get object.mail place) message_bytes
mailed_by fragment object s = 0

-- the number of bytes of a request, or 0 for a reply
abbrev pub asked_bytes : Body → ℕ
asked_bytes (body.Request asked) = request_bytes asked
asked_bytes (body.Reply kind made) = 0

-- the number of bytes of a reply, or 0 for a request
abbrev pub told_bytes : Body → ℕ
told_bytes (body.Request asked) = 0
told_bytes (body.Reply kind made) = answer_bytes made.answer

-- the number of bytes that a step removes from the mail
abbrev pub unmailed_by : Object → Step → ℕ
unmailed_by object (Step.Serve place) = some_bytes (slice_get object.mail place) (λ message. asked_bytes message.body)
unmailed_by object (Step.Take place) = some_bytes (slice_get object.mail place) (λ message. told_bytes message.body)
unmailed_by object (Step.Lose place) = some_bytes (slice_get object.mail place) message_bytes
unmailed_by object s = 0
