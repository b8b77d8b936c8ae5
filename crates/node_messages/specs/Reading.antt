-- Reading a message from the strings of a frame, up to the first fault.
use Rattle.std.specs.Prelude.{◌==◌, ℕ, List, length, Option, Some, None, Bool, true, false}
use Rattle.std.specs.Prelude.{Result, Ok, Err, nat_lt, not, if◌then◌else◌}
use Rattle.std.specs.Str.{bytes_eq}
use Rattle.tag.specs.declared.tag.Tag.{Tag}
use Rattle.piece.specs.declared.piece.Piece.{Piece}
use Rattle.bank.specs.declared.kind.Kind.{Kind}
use Rattle.bank.specs.declared.kind.Kind.TheVariants as kind
use Rattle.bank.specs.declared.reply.Answer.{Answer}
use Rattle.bank.specs.declared.reply.Answer.TheVariants as answer
use Rattle.bank.specs.declared.reply.Reply.{Reply}
use Rattle.bank.specs.declared.request.Request.{Request}
use Rattle.bank.specs.declared.request.Request.TheVariants as request
use Rattle.bank.specs.declared.status.Status.{Status}
use Rattle.mail.specs.declared.message.Body.{Body}
use Rattle.mail.specs.declared.message.Body.TheVariants as body
use Rattle.mail.specs.Message.{names_next}
use Rattle.node_strings.specs.Strings.{Strings}
use Rattle.words.specs.Parts.{and_then}
use Rattle.node_messages.specs.declared.besides.Besides.{Besides}
use Rattle.node_messages.specs.declared.error.Fault.{Fault}
use Rattle.node_messages.specs.declared.error.Fault.TheVariants.{BadTelling, NoMember, NoPiece, UnknownCode}
use Rattle.node_messages.specs.declared.error.Fault.TheVariants.{UnusedPlace}
use Rattle.node_messages.specs.declared.layouts.Layouts.{Layouts}
use Rattle.node_messages.specs.declared.message.NodeMessage.{NodeMessage}
use Rattle.node_messages.specs.declared.places.TheConstants.{CALL_PLACE, PHASE_PLACE, POSITION_PLACE, MEMBER_PLACE}
use Rattle.node_messages.specs.declared.places.TheConstants.{ROLE_PLACE, KIND_PLACE, STATUS_PLACE, STEP_PLACE}
use Rattle.node_messages.specs.Besides.{last_besides}
use Rattle.node_messages.specs.Codes.{status_from, flag_from}
use Rattle.node_messages.specs.Head.{byte_in, short_in, long_in, numbers_of}
use Rattle.node_messages.specs.Layouts.{layouts_from}
use Rattle.node_messages.specs.Message.{has_fitting_role}
use Rattle.node_messages.specs.Parts.{first_name, first_piece, first_string, parts_of, tag_in}

-- The body, as the numbers say it

-- a status
abbrev pub status_in : (numbers : List ℕ) → Result Status Fault
status_in numbers = status_from (byte_in STATUS_PLACE numbers)

-- a kind that has a tag
unfoldable pub tagged_from : (code : ℕ) → (tag : Tag) → Result Kind Fault
tagged_from code tag =
    if code == 3 then Ok (kind.PreWrite tag)
    else (if code == 4 then Ok (kind.Finalize tag)
    else (if code == 5 then Ok (kind.Fetch tag)
    else Err UnknownCode))

-- the kind that has this code
unfoldable pub kind_from : (code : ℕ) → (numbers : List ℕ) → Result Kind Fault
kind_from code numbers =
    if code == 0 then Ok kind.Next
    else (if code == 1 then (and_then (status_in numbers) (λ found. Ok (kind.Spread found)))
    else (if code == 2 then Ok kind.Query
    else tagged_from code (tag_in numbers)))

-- a request to pre-write a piece
abbrev pub pre_write_of : Tag → Option Piece → Result Request Fault
pre_write_of tag None = Err NoPiece
pre_write_of tag (Some piece) = Ok (request.PreWrite tag piece)

-- a request of this kind
unfoldable pub request_from : Kind → Option Piece → Result Request Fault
request_from kind.Next piece = Ok request.Next
request_from (kind.Spread found) piece = Ok (request.Spread found)
request_from kind.Query piece = Ok request.Query
request_from (kind.PreWrite tag) piece = pre_write_of tag piece
request_from (kind.Finalize tag) piece = Ok (request.Finalize tag)
request_from (kind.Fetch tag) piece = Ok (request.Fetch tag)

-- an answer to a request of this kind
unfoldable pub answer_from : Kind → (numbers : List ℕ) → Option Piece → Result Answer Fault
answer_from kind.Next numbers piece = and_then (status_in numbers) (λ found. Ok (answer.Pointer found))
answer_from (kind.Spread found) numbers piece = Ok answer.Done
answer_from kind.Query numbers piece = Ok (answer.Greatest (tag_in numbers))
answer_from (kind.PreWrite tag) numbers piece = Ok answer.Done
answer_from (kind.Finalize tag) numbers piece = Ok answer.Done
answer_from (kind.Fetch tag) numbers piece = Ok (answer.Piece piece)

-- a reply to a request of this kind
unfoldable pub reply_from : Kind → (numbers : List ℕ) → Option Piece → Result Reply Fault
reply_from k numbers piece =
    and_then (answer_from k numbers piece) (λ found.
    Ok (record { step = long_in STEP_PLACE numbers; answer = found }))

-- a reply or a request, with this kind
unfoldable pub body_of_kind : (is_reply : Bool) → Kind → (numbers : List ℕ) → Option Piece → Result Body Fault
body_of_kind true k numbers piece = and_then (reply_from k numbers piece) (λ r. Ok (body.Reply k r))
body_of_kind false k numbers piece = and_then (request_from k piece) (λ q. Ok (body.Request q))

-- the body of a message
unfoldable pub body_from : (numbers : List ℕ) → Option Piece → Result Body Fault
body_from numbers piece =
    and_then (flag_from (byte_in ROLE_PLACE numbers)) (λ is_reply.
    and_then (kind_from (byte_in KIND_PLACE numbers) numbers) (λ k.
    body_of_kind is_reply k numbers piece))

-- Messages

-- the message of these parts
abbrev pub made_of : (numbers digest name : List ℕ) → Body → Layouts → Besides → NodeMessage
made_of numbers digest name found layouts besides = record {
  digest = digest;
  named = record {
    name = name;
    letter = record {
      layout = layouts.layout;
      next = layouts.next;
      start = layouts.start;
      asks_piece = besides.asks_piece;
      told = besides.told;
      message = record {
        call = long_in CALL_PLACE numbers;
        phase = short_in PHASE_PLACE numbers;
        position = short_in POSITION_PLACE numbers;
        member = byte_in MEMBER_PLACE numbers;
        body = found;
      };
    };
  };
}

-- this message, unless its layout has no such member, it is a request that tells something or a reply that asks for a
-- piece, or a place that it does not use has another byte than zero
unfoldable pub checked_places : (numbers : List ℕ) → NodeMessage → Result NodeMessage Fault
checked_places numbers m =
    if not (nat_lt m.named.letter.message.member (length m.named.letter.layout.members)) then Err NoMember
    else (if not (has_fitting_role m.named.letter) then Err BadTelling
    else (if bytes_eq (numbers_of m.named.letter) numbers then Ok m
    else Err UnusedPlace))

-- the message whose head has these parts, with this name and the strings after the name
unfoldable pub message_of_parts : (numbers digest layouts name : List ℕ) → Strings → Result NodeMessage Fault
message_of_parts numbers digest layouts name strings =
    and_then (first_piece numbers strings) (λ piece.
    and_then (last_besides numbers piece.1) (λ besides.
    and_then (body_from numbers piece.0) (λ found.
    and_then (layouts_from (names_next found) layouts) (λ read.
    checked_places numbers (made_of numbers digest name found read besides)))))

-- the message whose strings these are, or the first fault
unfoldable pub message_from : Strings → Result NodeMessage Fault
message_from strings =
    and_then (first_string strings) (λ head.
    and_then (parts_of head.0) (λ parts.
    and_then (first_name head.1) (λ name.
    message_of_parts parts.0 parts.1 parts.2 name.0 name.1)))
