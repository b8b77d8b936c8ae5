-- What a call sends: the pieces of its value, the requests of a phase, and those that are resent.
use Rattle.std.specs.Prelude.{ℕ, suc, Bool, false, ◌==◌, ◌&&◌, ◌||◌}
use Rattle.std.specs.Prelude.{if◌then◌else◌, List, [], ◌∷◌, length, Option, Some, None}
use Rattle.layout.specs.Layout.{Layout}
use Rattle.layout.specs.Quorum.{has}
use Rattle.piece.specs.declared.piece.Piece.{Piece}
use Rattle.bank.specs.declared.kind.Kind.{Kind}
use Rattle.bank.specs.declared.kind.Kind.TheVariants.{Next, Spread, Query, PreWrite, Finalize, Fetch}
use Rattle.bank.specs.declared.request.Request.{Request}
use Rattle.bank.specs.declared.request.Request.TheVariants as request
use Rattle.mail.specs.declared.message.Message.{Message}
use Rattle.mail.specs.declared.message.Body.TheVariants as body
use Rattle.mail.specs.Phase.{Phase, members_of}
use Rattle.record.specs.declared.call.CallKind.{CallKind}
use Rattle.record.specs.declared.call.CallKind.TheVariants.{Read, Write, Move}
use Rattle.record.specs.Records.{Call, Object, layout_at}
use Rattle.record.specs.Fragments.{Code}

-- the value whose fragments a call sends: what a write writes, and what any other call settled
abbrev pub sent_value : CallKind → (settled : Option (List ℕ)) → Option (List ℕ)
sent_value Read settled = settled
sent_value (Write value) settled = Some value
sent_value Move settled = settled

-- the value, or the empty value if there is none
abbrev pub value_or_empty : Option (List ℕ) → List ℕ
value_or_empty None = []
value_or_empty (Some value) = value

-- the piece of a member: its fragment of the value, with its point and the value's length
abbrev pub fragment_piece : Code → Layout → (value : List ℕ) → (member : ℕ) → Piece
fragment_piece fragment layout value member =
    record { point = member; len = length value; bytes = fragment value layout.k member }

-- the piece that a call sends to each member of a position
abbrev pub sent_pieces : Code → Object → Call → (position : ℕ) → (member : ℕ) → Piece
sent_pieces fragment object call position member =
    fragment_piece fragment (layout_at object position) (value_or_empty (sent_value call.kind call.settled)) member

-- the request that a phase of this kind sends; only a pre-write carries the piece
abbrev pub request_to : Kind → Piece → Request
request_to Next piece = request.Next
request_to (Spread status) piece = request.Spread status
request_to Query piece = request.Query
request_to (PreWrite tag) piece = request.PreWrite tag piece
request_to (Finalize tag) piece = request.Finalize tag
request_to (Fetch tag) piece = request.Fetch tag

-- the messages of a phase: one request to each member, from `member` on
abbrev pub requests : (call phase : ℕ) → Kind → (position : ℕ) → List ℕ → (member : ℕ) →
    (ℕ → Piece) → List Message
requests call phase kind position [] member piece = []
requests call phase kind position (server ∷ servers) member piece =
    record {
      call = call;
      phase = phase;
      position = position;
      member = member;
      body = body.Request (request_to kind (piece member));
    }
    ∷ requests call phase kind position servers (suc member) piece

-- whether a message of this phase to or from the member waits in the mail
abbrev pub waits : List Message → (call phase member : ℕ) → Bool
waits [] call phase member = false
waits (message ∷ mail) call phase member =
    (message.call == call && (message.phase == phase && message.member == member)) || waits mail call phase member

-- of these requests, those to members that have no recorded reply and no waiting message of the phase
abbrev pub missing : (mail : List Message) → (replied : List ℕ) → List Message → List Message
missing mail replied [] = []
missing mail replied (message ∷ messages) =
    if has replied message.member || waits mail message.call message.phase message.member
    then missing mail replied messages
    else message ∷ missing mail replied messages

-- the requests of a phase to members that have no recorded reply and no waiting message of it: those that are resent
abbrev pub missing_requests : Object → Phase → (ℕ → Piece) → List Message
missing_requests object phase piece =
    missing object.mail (members_of phase.replies)
    (requests phase.call phase.number phase.kind phase.position (layout_at object phase.position).members 0 piece)
