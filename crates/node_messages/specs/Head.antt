-- The head of a message, which is the first string of its frame: numbers at fixed places, the digest, and the layouts.
use Rattle.std.specs.Prelude.{◌%◌, ◌^◌, ℕ, List, [], ◌∷◌, ◌++◌, length, take, drop, slice_index}
use Rattle.std.specs.Prelude.{Option, Some, None, Bool}
use Rattle.std.specs.Int.{w32, w64, to_be_bytes, from_be_bytes}
use Rattle.tag.specs.declared.tag.Tag.{Tag}
use Rattle.piece.specs.declared.piece.Piece.{Piece}
use Rattle.layout.specs.Layout.{Layout}
use Rattle.bank.specs.declared.kind.Kind.{Kind}
use Rattle.bank.specs.declared.kind.Kind.TheVariants as kind
use Rattle.bank.specs.declared.reply.Answer.{Answer}
use Rattle.bank.specs.declared.reply.Answer.TheVariants as answer
use Rattle.bank.specs.declared.status.Status.{Status}
use Rattle.bank.specs.declared.request.Request.{Request}
use Rattle.bank.specs.declared.request.Request.TheVariants as request
use Rattle.bank.specs.Serve.{kind_of}
use Rattle.mail.specs.declared.message.Body.{Body}
use Rattle.mail.specs.declared.message.Body.TheVariants as body
use Rattle.mail.specs.declared.message.Message.{Message}
use Rattle.letter.specs.declared.letter.Letter.{Letter}
use Rattle.letter.specs.declared.start.Start.{Start}
use Rattle.letter.specs.declared.telling.Telling.{Telling}
use Rattle.node_messages.specs.declared.message.NodeMessage.{NodeMessage}
use Rattle.node_messages.specs.declared.places.TheConstants.{FORM}
use Rattle.node_messages.specs.declared.said.Said.{Said}
use Rattle.node_messages.specs.declared.said_besides.SaidBesides.{SaidBesides}
use Rattle.node_messages.specs.Codes.{asking_code, kind_code, status_code}

-- Numbers at their places

-- the number of eight bytes from a place on, high byte first; the remainder is that number itself, as bytes are below
-- 256
abbrev pub long_in : (place : ℕ) → List ℕ → ℕ
long_in place bytes = from_be_bytes w64 (take 8 (drop place bytes)) % 2 ^ 64

-- the number of four bytes from a place on, high byte first
abbrev pub short_in : (place : ℕ) → List ℕ → ℕ
short_in place bytes = from_be_bytes w32 (take 4 (drop place bytes)) % 2 ^ 32

-- the byte at a place
abbrev pub byte_in : (place : ℕ) → List ℕ → ℕ
byte_in place bytes = slice_index bytes place % 2 ^ 8

-- What a head says of the body of a message. A place that the body does not use holds zeros.

-- the tag of a kind, or zeros
abbrev pub kind_tag : Kind → Tag
kind_tag (kind.PreWrite tag) = tag
kind_tag (kind.Finalize tag) = tag
kind_tag (kind.Fetch tag) = tag
kind_tag k = record { number = 0; call = 0 }

-- the code of the status of a kind, or zero
abbrev pub kind_status : Kind → ℕ
kind_status (kind.Spread found) = status_code found
kind_status k = 0

-- what a head says of a kind of request, without a piece
abbrev pub said_of_kind : Kind → Said
said_of_kind k = record {
  is_reply = 0;
  kind = kind_code k;
  status = kind_status k;
  tag = kind_tag k;
  step = 0;
  is_piece = 0;
  point = 0;
  len = 0;
}

-- what a head says, with the point of a piece and the length of its value, if there is a piece
abbrev pub with_piece : Option Piece → Said → Said
with_piece None said = said
with_piece (Some piece) said = record said { is_piece = 1; point = piece.point; len = piece.len }

-- what a head says, with the status, the tag or the piece of an answer
abbrev pub with_answer : Answer → Said → Said
with_answer answer.Done said = said
with_answer (answer.Pointer found) said = record said { status = status_code found }
with_answer (answer.Greatest tag) said = record said { tag = tag }
with_answer (answer.Piece piece) said = with_piece piece said

-- the piece of a request, if it has one
abbrev pub request_piece : Request → Option Piece
request_piece (request.PreWrite tag piece) = Some piece
request_piece q = None

-- what a head says of a body
abbrev pub said_of : Body → Said
said_of (body.Request q) = with_piece (request_piece q) (said_of_kind (kind_of q))
said_of (body.Reply k r) = with_answer r.answer (record (said_of_kind k) { is_reply = 1; step = r.step })

-- What a head says of what a letter asks and tells besides its message. A place that the letter does not use holds
-- zeros.

-- what a head says of a letter that tells nothing: whether it asks for a piece
abbrev pub said_of_asking : (asks_piece : Bool) → SaidBesides
said_of_asking asks = record {
  mark = asking_code asks;
  status = 0;
  greatest = record { number = 0; call = 0 };
  point = 0;
  len = 0;
}

-- what a head says of a telling of this status and this greatest tag, without a piece
abbrev pub said_of_facts : Status → Tag → SaidBesides
said_of_facts found greatest = record {
  mark = 2;
  status = status_code found;
  greatest = greatest;
  point = 0;
  len = 0;
}

-- what a head says, with the point of the told piece and the length of its value, if a piece is told
abbrev pub with_told_piece : Option Piece → SaidBesides → SaidBesides
with_told_piece None said = said
with_told_piece (Some piece) said = record said { mark = 3; point = piece.point; len = piece.len }

-- what a head says of whether a letter asks for a piece, and of what it tells
abbrev pub said_besides : (asks_piece : Bool) → Option Telling → SaidBesides
said_besides asks None = said_of_asking asks
said_besides asks (Some telling) = with_told_piece telling.piece (said_of_facts telling.status telling.greatest)

-- The bytes of a head

-- the numbers of a message, each at its place
abbrev pub number_bytes : Message → Said → SaidBesides → List ℕ
number_bytes m said more = FORM ∷ to_be_bytes w64 m.call ++ to_be_bytes w32 m.phase ++ to_be_bytes w32 m.position
    ++ m.member ∷ said.is_reply ∷ said.kind ∷ said.status ∷ to_be_bytes w64 said.tag.number
    ++ to_be_bytes w64 said.tag.call ++ to_be_bytes w64 said.step ++ said.is_piece ∷ said.point
    ∷ to_be_bytes w32 said.len ++ more.mark ∷ more.status ∷ to_be_bytes w64 more.greatest.number
    ++ to_be_bytes w64 more.greatest.call ++ more.point ∷ to_be_bytes w32 more.len

-- the numbers of a letter
abbrev pub numbers_of : Letter → List ℕ
numbers_of letter =
    number_bytes letter.message (said_of letter.message.body) (said_besides letter.asks_piece letter.told)

-- the bytes of a layout: the number of its members, k, and the members
abbrev pub layout_bytes : Layout → List ℕ
layout_bytes layout = length layout.members ∷ layout.k ∷ layout.members

-- the bytes of the layout of the next position, if there is one
abbrev pub next_bytes : Option Layout → List ℕ
next_bytes None = []
next_bytes (Some layout) = layout_bytes layout

-- the bytes of a start, if a letter tells one: its position, high byte first, and its layout
abbrev pub start_bytes : Option Start → List ℕ
start_bytes None = []
start_bytes (Some start) = to_be_bytes w32 start.position ++ layout_bytes start.layout

-- the head of a message: its numbers, the digest, the layout of its position, the next layout if there is one, and the
-- start that its letter tells, if it tells one
abbrev pub head_of : NodeMessage → List ℕ
head_of m =
    numbers_of m.named.letter ++ (m.digest ++ (layout_bytes m.named.letter.layout
    ++ (next_bytes m.named.letter.next ++ start_bytes m.named.letter.start)))
