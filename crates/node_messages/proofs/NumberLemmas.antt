-- The numbers of a head are read at the places at which they are written.
use Rattle.std.proofs.Common.{◌≡◌, ℕ, ◌%◌, ◌^◌, ◌<◌, List, Option, Some, None, ap, ap₂, ◌∙◌, arith}
use Rattle.std.specs.Prelude.{IfSome}
use Rattle.std.specs.Int.{w32, w64, to_be_bytes, from_be_bytes}
use Rattle.std.proofs.lemmas.Nat.{from_be_bytes-to_be_bytes_4, from_be_bytes-to_be_bytes_8}
use Rattle.tag.specs.declared.tag.Tag.{Tag}
use Rattle.piece.specs.declared.piece.Piece.{Piece}
use Rattle.bank.specs.declared.kind.Kind.{Kind}
use Rattle.bank.specs.declared.kind.Kind.TheVariants as kind
use Rattle.bank.specs.declared.reply.Answer.{Answer}
use Rattle.bank.specs.declared.reply.Answer.TheVariants as answer
use Rattle.bank.specs.declared.request.Request.{Request}
use Rattle.bank.specs.declared.request.Request.TheVariants as request
use Rattle.bank.specs.declared.status.Status.{Status}
use Rattle.bank.specs.declared.status.Status.TheVariants as status
use Rattle.bank.specs.Serve.{kind_of}
use Rattle.mail.specs.declared.message.Body.{Body}
use Rattle.mail.specs.declared.message.Body.TheVariants as body
use Rattle.mail.specs.declared.message.Message.{Message}
use Rattle.node_messages.specs.declared.places.TheConstants.{ROLE_PLACE, KIND_PLACE, STATUS_PLACE, STEP_PLACE, PIECE_PLACE}
use Rattle.node_messages.specs.declared.places.TheConstants.{POINT_PLACE, LEN_PLACE, CALL_PLACE, PHASE_PLACE, POSITION_PLACE}
use Rattle.node_messages.specs.declared.places.TheConstants.{MEMBER_PLACE}
use Rattle.node_messages.specs.declared.said.Said.{Said}
use Rattle.node_messages.specs.declared.said_besides.SaidBesides.{SaidBesides}
use Rattle.node_messages.specs.Codes.{status_code}
use Rattle.node_messages.specs.Head.{byte_in, short_in, long_in, said_of_kind, with_piece, with_answer, request_piece, said_of}
use Rattle.node_messages.specs.Head.{number_bytes}
use Rattle.node_messages.specs.Message.{IsTag, IsPiece, IsKind, IsRequest, IsAnswer, IsBody}
use Rattle.node_messages.specs.Parts.{tag_in}

-- ---- numbers

pub long_below : (n : ℕ) → n % 2 ^ 64 < 2 ^ 64
long_below n = omega arith

pub short_below : (n : ℕ) → n % 2 ^ 32 < 2 ^ 32
short_below n = omega arith

pub byte_below : (n : ℕ) → n % 2 ^ 8 < 2 ^ 8
byte_below n = omega arith

long_same : (n : ℕ) → n < 2 ^ 64 → n % 2 ^ 64 ≡ n
long_same n lt = omega arith

short_same : (n : ℕ) → n < 2 ^ 32 → n % 2 ^ 32 ≡ n
short_same n lt = omega arith

pub byte_same : (n : ℕ) → n < 2 ^ 8 → n % 2 ^ 8 ≡ n
byte_same n lt = omega arith

pub long_again : (n : ℕ) → n < 2 ^ 64 → from_be_bytes w64 (to_be_bytes w64 n) % 2 ^ 64 ≡ n
long_again n lt = ap (λ (v : ℕ). v % 2 ^ 64) (from_be_bytes-to_be_bytes_8 n lt) ∙ long_same n lt

pub short_again : (n : ℕ) → n < 2 ^ 32 → from_be_bytes w32 (to_be_bytes w32 n) % 2 ^ 32 ≡ n
short_again n lt = ap (λ (v : ℕ). v % 2 ^ 32) (from_be_bytes-to_be_bytes_4 n lt) ∙ short_same n lt

-- ---- what a head says of a body

-- what a head says is within its bits
pub record IsSaid (said : Said) : Type 0 where
  pub is_reply : said.is_reply < 2 ^ 8
  pub kind : said.kind < 2 ^ 8
  pub status : said.status < 2 ^ 8
  pub tag : IsTag said.tag
  pub step : said.step < 2 ^ 64
  pub is_piece : said.is_piece < 2 ^ 8
  pub point : said.point < 2 ^ 8
  pub len : said.len < 2 ^ 32

-- the numbers of a head say this of a body
pub record Says (numbers : List ℕ) (said : Said) : Type 0 where
  pub is_reply : byte_in ROLE_PLACE numbers ≡ said.is_reply
  pub kind : byte_in KIND_PLACE numbers ≡ said.kind
  pub status : byte_in STATUS_PLACE numbers ≡ said.status
  pub tag : tag_in numbers ≡ said.tag
  pub step : long_in STEP_PLACE numbers ≡ said.step
  pub is_piece : byte_in PIECE_PLACE numbers ≡ said.is_piece
  pub point : byte_in POINT_PLACE numbers ≡ said.point
  pub len : short_in LEN_PLACE numbers ≡ said.len

abbrev pub tag_of : ℕ → ℕ → Tag
tag_of number call = record { number = number; call = call }

pub numbers_say : (m : Message) (said : Said) (more : SaidBesides) → IsSaid said → Says (number_bytes m said more) said
numbers_say m said more fits = record {
  is_reply = byte_same said.is_reply fits.is_reply;
  kind = byte_same said.kind fits.kind;
  status = byte_same said.status fits.status;
  tag = ap₂ tag_of (long_again said.tag.number fits.tag.0) (long_again said.tag.call fits.tag.1);
  step = long_again said.step fits.step;
  is_piece = byte_same said.is_piece fits.is_piece;
  point = byte_same said.point fits.point;
  len = short_again said.len fits.len;
}

-- the other numbers

pub call_again : (m : Message) (said : Said) (more : SaidBesides) → m.call < 2 ^ 64 → long_in CALL_PLACE (number_bytes m said more) ≡ m.call
call_again m said more lt = long_again m.call lt

pub phase_again : (m : Message) (said : Said) (more : SaidBesides) → m.phase < 2 ^ 32 →
    short_in PHASE_PLACE (number_bytes m said more) ≡ m.phase
phase_again m said more lt = short_again m.phase lt

pub position_again : (m : Message) (said : Said) (more : SaidBesides) → m.position < 2 ^ 32 →
    short_in POSITION_PLACE (number_bytes m said more) ≡ m.position
position_again m said more lt = short_again m.position lt

pub member_again : (m : Message) (said : Said) (more : SaidBesides) → m.member < 2 ^ 8 →
    byte_in MEMBER_PLACE (number_bytes m said more) ≡ m.member
member_again m said more lt = byte_same m.member lt

-- ---- what is said of a body is within its bits

pub status_small : (s : Status) → status_code s < 2 ^ 8
status_small status.Unset = omega arith
status_small status.Pending = omega arith
status_small status.Final = omega arith

pub no_tag : IsTag (record { number = 0; call = 0 })
no_tag = (omega arith, omega arith)

-- what is said of a kind, by its code, its status and its tag
plain : (kind status : ℕ) (tag : Tag) → kind < 2 ^ 8 → status < 2 ^ 8 → IsTag tag
    → IsSaid (record {
      is_reply = 0;
      kind = kind;
      status = status;
      tag = tag;
      step = 0;
      is_piece = 0;
      point = 0;
      len = 0;
    })
plain kind status tag k s t = record {
  is_reply = omega arith;
  kind = k;
  status = s;
  tag = t;
  step = omega arith;
  is_piece = omega arith;
  point = omega arith;
  len = omega arith;
}

kind_said : (k : Kind) → IsKind k → IsSaid (said_of_kind k)
kind_said kind.Next fits = plain 0 0 _ (omega arith) (omega arith) no_tag
kind_said (kind.Spread s) fits = plain 1 (status_code s) _ (omega arith) (status_small s) no_tag
kind_said kind.Query fits = plain 2 0 _ (omega arith) (omega arith) no_tag
kind_said (kind.PreWrite t) fits = plain 3 0 t (omega arith) (omega arith) fits
kind_said (kind.Finalize t) fits = plain 4 0 t (omega arith) (omega arith) fits
kind_said (kind.Fetch t) fits = plain 5 0 t (omega arith) (omega arith) fits

piece_said : (piece : Option Piece) (said : Said) → IfSome piece IsPiece → IsSaid said → IsSaid (with_piece piece said)
piece_said None said fits is = is
piece_said (Some piece) said fits is = record {
  is_reply = is.is_reply;
  kind = is.kind;
  status = is.status;
  tag = is.tag;
  step = is.step;
  is_piece = omega arith;
  point = fits.0;
  len = fits.1;
}

answer_said : (a : Answer) (said : Said) → IsAnswer a → IsSaid said → IsSaid (with_answer a said)
answer_said answer.Done said fits is = is
answer_said (answer.Pointer s) said fits is = record {
  is_reply = is.is_reply;
  kind = is.kind;
  status = status_small s;
  tag = is.tag;
  step = is.step;
  is_piece = is.is_piece;
  point = is.point;
  len = is.len;
}
answer_said (answer.Greatest t) said fits is = record {
  is_reply = is.is_reply;
  kind = is.kind;
  status = is.status;
  tag = fits;
  step = is.step;
  is_piece = is.is_piece;
  point = is.point;
  len = is.len;
}
answer_said (answer.Piece piece) said fits is = piece_said piece said fits is

reply_said : (said : Said) (step : ℕ) → step < 2 ^ 64 → IsSaid said → IsSaid (record said { is_reply = 1; step = step })
reply_said said step lt is = record {
  is_reply = omega arith;
  kind = is.kind;
  status = is.status;
  tag = is.tag;
  step = lt;
  is_piece = is.is_piece;
  point = is.point;
  len = is.len;
}

pub request_kind : (q : Request) → IsRequest q → IsKind (kind_of q)
request_kind request.Next fits = tt
request_kind (request.Spread s) fits = tt
request_kind request.Query fits = tt
request_kind (request.PreWrite t p) fits = fits.0
request_kind (request.Finalize t) fits = fits
request_kind (request.Fetch t) fits = fits

request_fits : (q : Request) → IsRequest q → IfSome (request_piece q) IsPiece
request_fits request.Next fits = tt
request_fits (request.Spread s) fits = tt
request_fits request.Query fits = tt
request_fits (request.PreWrite t p) fits = fits.1
request_fits (request.Finalize t) fits = tt
request_fits (request.Fetch t) fits = tt

pub body_said : (b : Body) → IsBody b → IsSaid (said_of b)
body_said (body.Request q) fits =
    piece_said (request_piece q) (said_of_kind (kind_of q)) (request_fits q fits)
    (kind_said (kind_of q) (request_kind q fits))
body_said (body.Reply k r) fits =
    answer_said r.answer (record (said_of_kind k) { is_reply = 1; step = r.step }) fits.2
    (reply_said (said_of_kind k) r.step fits.1 (kind_said k fits.0))
