-- A body is read again from the numbers and the piece that were written of it.
use Rattle.std.proofs.Common.{◌≡◌, ℕ, Bool, true, false, List, ◌∷◌, ◌++◌, Option, Some, None, Result, Ok}
use Rattle.std.proofs.Common.{refl, ap, ap₂, ◌∙◌}
use Rattle.piece.specs.declared.piece.Piece.{Piece}
use Rattle.tag.specs.declared.tag.Tag.{Tag}
use Rattle.bank.specs.declared.kind.Kind.{Kind}
use Rattle.bank.specs.declared.kind.Kind.TheVariants as kind
use Rattle.bank.specs.declared.reply.Answer.{Answer}
use Rattle.bank.specs.declared.reply.Answer.TheVariants as answer
use Rattle.bank.specs.declared.reply.Reply.{Reply}
use Rattle.bank.specs.declared.request.Request.{Request}
use Rattle.bank.specs.declared.request.Request.TheVariants as request
use Rattle.bank.specs.declared.status.Status.{Status}
use Rattle.bank.specs.declared.status.Status.TheVariants as status
use Rattle.bank.specs.Serve.{kind_of}
use Rattle.mail.specs.declared.message.Body.{Body}
use Rattle.mail.specs.declared.message.Body.TheVariants as body
use Rattle.words.specs.Parts.{and_then}
use Rattle.node_strings.specs.Strings.{Strings}
use Rattle.node_messages.specs.declared.error.Fault.{Fault}
use Rattle.node_messages.specs.declared.places.TheConstants.{ROLE_PLACE, KIND_PLACE, STATUS_PLACE, STEP_PLACE, PIECE_PLACE}
use Rattle.node_messages.specs.declared.said.Said.{Said}
use Rattle.node_messages.specs.Codes.{status_code, status_from, kind_code, flag_from}
use Rattle.node_messages.specs.Head.{byte_in, long_in, said_of_kind, with_answer, request_piece, said_of}
use Rattle.node_messages.specs.Message.{is_answer_to, IsBody}
use Rattle.node_messages.specs.Parts.{tag_in, piece_if, first_piece, first_string}
use Rattle.node_messages.specs.Reading.{tagged_from, kind_from}
use Rattle.node_messages.specs.Reading.{request_from, answer_from, reply_from, body_of_kind, body_from}
use Rattle.node_messages.specs.Strings.{answer_piece, body_piece, piece_strings}
use Rattle.node_messages.proofs.NumberLemmas.{Says}

-- ---- what was written is read again

same_status : (s : Status) → status_from (status_code s) ≡ Ok s
unfolding status_from
same_status status.Unset = refl
same_status status.Pending = refl
same_status status.Final = refl

pub status_again : (code : ℕ) (s : Status) → code ≡ status_code s → status_from code ≡ Ok s
status_again code s e = ap status_from e ∙ same_status s

-- what the numbers have to say of a kind besides its code
abbrev Rest : List ℕ → Kind → Type 0
Rest numbers kind.Next = Unit {0}
Rest numbers (kind.Spread s) = byte_in STATUS_PLACE numbers ≡ status_code s
Rest numbers kind.Query = Unit {0}
Rest numbers (kind.PreWrite t) = tag_in numbers ≡ t
Rest numbers (kind.Finalize t) = tag_in numbers ≡ t
Rest numbers (kind.Fetch t) = tag_in numbers ≡ t

abbrev kind_read : Kind → Result Kind Fault
kind_read k = Ok k

by_code : (numbers : List ℕ) (k : Kind) → Rest numbers k → kind_from (kind_code k) numbers ≡ kind_read k
unfolding kind_from tagged_from
by_code numbers kind.Next rest = refl
by_code numbers (kind.Spread s) rest =
    ap (λ r. and_then r (λ found. kind_read (kind.Spread found))) (status_again (byte_in STATUS_PLACE numbers) s rest)
by_code numbers kind.Query rest = refl
by_code numbers (kind.PreWrite t) rest = ap (λ (t : Tag). kind_read (kind.PreWrite t)) rest
by_code numbers (kind.Finalize t) rest = ap (λ (t : Tag). kind_read (kind.Finalize t)) rest
by_code numbers (kind.Fetch t) rest = ap (λ (t : Tag). kind_read (kind.Fetch t)) rest

kind_again : (numbers : List ℕ) (k : Kind) → byte_in KIND_PLACE numbers ≡ kind_code k → Rest numbers k
    → kind_from (byte_in KIND_PLACE numbers) numbers ≡ Ok k
kind_again numbers k code rest = ap (λ (c : ℕ). kind_from c numbers) code ∙ by_code numbers k rest

body_by : (numbers : List ℕ) (piece : Option Piece) (is_reply : Bool) (k : Kind) → flag_from (byte_in ROLE_PLACE numbers) ≡ Ok is_reply
    → kind_from (byte_in KIND_PLACE numbers) numbers ≡ Ok k → body_from numbers piece ≡ body_of_kind is_reply k numbers piece
unfolding body_from
body_by numbers piece is_reply k flag kind =
    ap (λ r. and_then r (λ is_reply. and_then (kind_from (byte_in KIND_PLACE numbers) numbers) (λ k.
    body_of_kind is_reply k numbers piece))) flag
    ∙ ap (λ r. and_then r (λ k. body_of_kind is_reply k numbers piece)) kind

is_no : (code : ℕ) → code ≡ 0 → flag_from code ≡ Ok false
unfolding flag_from
is_no code e = ap flag_from e

is_yes : (code : ℕ) → code ≡ 1 → flag_from code ≡ Ok true
unfolding flag_from
is_yes code e = ap flag_from e

request_again : (numbers : List ℕ) (q : Request)
    → body_of_kind false (kind_of q) numbers (request_piece q) ≡ Ok (body.Request q)
unfolding body_of_kind request_from
request_again numbers request.Next = refl
request_again numbers (request.Spread s) = refl
request_again numbers request.Query = refl
request_again numbers (request.PreWrite t p) = refl
request_again numbers (request.Finalize t) = refl
request_again numbers (request.Fetch t) = refl

-- what the numbers say of a request
request_says : (numbers : List ℕ) (q : Request) → Says numbers (said_of (body.Request q))
    → (byte_in ROLE_PLACE numbers ≡ 0) × (byte_in KIND_PLACE numbers ≡ kind_code (kind_of q)) × Rest numbers (kind_of q)
request_says numbers request.Next says = (says.is_reply, says.kind, tt)
request_says numbers (request.Spread s) says = (says.is_reply, says.kind, says.status)
request_says numbers request.Query says = (says.is_reply, says.kind, tt)
request_says numbers (request.PreWrite t p) says = (says.is_reply, says.kind, says.tag)
request_says numbers (request.Finalize t) says = (says.is_reply, says.kind, says.tag)
request_says numbers (request.Fetch t) says = (says.is_reply, says.kind, says.tag)

-- an answer changes neither the code of the kind nor the step
answer_keeps : (a : Answer) (said : Said) → ((with_answer a said).is_reply ≡ said.is_reply)
    × ((with_answer a said).kind ≡ said.kind) × ((with_answer a said).step ≡ said.step)
answer_keeps answer.Done said = (refl, refl, refl)
answer_keeps (answer.Pointer s) said = (refl, refl, refl)
answer_keeps (answer.Greatest t) said = (refl, refl, refl)
answer_keeps (answer.Piece None) said = (refl, refl, refl)
answer_keeps (answer.Piece (Some p)) said = (refl, refl, refl)

abbrev reply_of : Kind → ℕ → Said
reply_of k step = record (said_of_kind k) { is_reply = 1; step = step }

-- what the numbers say of the kind of a reply
reply_rest : (numbers : List ℕ) (k : Kind) (a : Answer) (step : ℕ) → is_answer_to k a ≡ true
    → Says numbers (with_answer a (reply_of k step)) → Rest numbers k
reply_rest numbers kind.Next a step to says = tt
reply_rest numbers (kind.Spread s) answer.Done step to says = says.status
reply_rest numbers (kind.Spread s) (answer.Pointer found) step to says = absurd cc
reply_rest numbers (kind.Spread s) (answer.Greatest tag) step to says = absurd cc
reply_rest numbers (kind.Spread s) (answer.Piece piece) step to says = absurd cc
reply_rest numbers kind.Query a step to says = tt
reply_rest numbers (kind.PreWrite t) answer.Done step to says = says.tag
reply_rest numbers (kind.PreWrite t) (answer.Pointer found) step to says = absurd cc
reply_rest numbers (kind.PreWrite t) (answer.Greatest tag) step to says = absurd cc
reply_rest numbers (kind.PreWrite t) (answer.Piece piece) step to says = absurd cc
reply_rest numbers (kind.Finalize t) answer.Done step to says = says.tag
reply_rest numbers (kind.Finalize t) (answer.Pointer found) step to says = absurd cc
reply_rest numbers (kind.Finalize t) (answer.Greatest tag) step to says = absurd cc
reply_rest numbers (kind.Finalize t) (answer.Piece piece) step to says = absurd cc
reply_rest numbers (kind.Fetch t) answer.Done step to says = absurd cc
reply_rest numbers (kind.Fetch t) (answer.Pointer found) step to says = absurd cc
reply_rest numbers (kind.Fetch t) (answer.Greatest tag) step to says = absurd cc
reply_rest numbers (kind.Fetch t) (answer.Piece None) step to says = says.tag
reply_rest numbers (kind.Fetch t) (answer.Piece (Some p)) step to says = says.tag

abbrev answer_read : Answer → Result Answer Fault
answer_read a = Ok a

answer_again : (numbers : List ℕ) (k : Kind) (a : Answer) (said : Said) → is_answer_to k a ≡ true → Says numbers (with_answer a said)
    → answer_from k numbers (answer_piece a) ≡ answer_read a
unfolding answer_from
answer_again numbers kind.Next answer.Done said to says = absurd cc
answer_again numbers kind.Next (answer.Pointer found) said to says =
    ap (λ r. and_then r (λ found. answer_read (answer.Pointer found)))
    (status_again (byte_in STATUS_PLACE numbers) found says.status)
answer_again numbers kind.Next (answer.Greatest tag) said to says = absurd cc
answer_again numbers kind.Next (answer.Piece piece) said to says = absurd cc
answer_again numbers (kind.Spread s) answer.Done said to says = refl
answer_again numbers (kind.Spread s) (answer.Pointer found) said to says = absurd cc
answer_again numbers (kind.Spread s) (answer.Greatest tag) said to says = absurd cc
answer_again numbers (kind.Spread s) (answer.Piece piece) said to says = absurd cc
answer_again numbers kind.Query answer.Done said to says = absurd cc
answer_again numbers kind.Query (answer.Pointer found) said to says = absurd cc
answer_again numbers kind.Query (answer.Greatest tag) said to says = ap (λ (t : Tag). answer_read (answer.Greatest t)) says.tag
answer_again numbers kind.Query (answer.Piece piece) said to says = absurd cc
answer_again numbers (kind.PreWrite t) answer.Done said to says = refl
answer_again numbers (kind.PreWrite t) (answer.Pointer found) said to says = absurd cc
answer_again numbers (kind.PreWrite t) (answer.Greatest tag) said to says = absurd cc
answer_again numbers (kind.PreWrite t) (answer.Piece piece) said to says = absurd cc
answer_again numbers (kind.Finalize t) answer.Done said to says = refl
answer_again numbers (kind.Finalize t) (answer.Pointer found) said to says = absurd cc
answer_again numbers (kind.Finalize t) (answer.Greatest tag) said to says = absurd cc
answer_again numbers (kind.Finalize t) (answer.Piece piece) said to says = absurd cc
answer_again numbers (kind.Fetch t) answer.Done said to says = absurd cc
answer_again numbers (kind.Fetch t) (answer.Pointer found) said to says = absurd cc
answer_again numbers (kind.Fetch t) (answer.Greatest tag) said to says = absurd cc
answer_again numbers (kind.Fetch t) (answer.Piece piece) said to says = refl

abbrev reply_body : Kind → ℕ → Answer → Result Body Fault
reply_body k step a = Ok (body.Reply k (record { step = step; answer = a }))

reply_again : (numbers : List ℕ) (k : Kind) (r : Reply) → is_answer_to k r.answer ≡ true
    → Says numbers (with_answer r.answer (reply_of k r.step))
    → body_of_kind true k numbers (answer_piece r.answer) ≡ Ok (body.Reply k r)
unfolding body_of_kind reply_from
reply_again numbers k r to says =
    let step : long_in STEP_PLACE numbers ≡ r.step = says.step ∙ (answer_keeps r.answer (reply_of k r.step)).2 in
    ap (λ s. and_then (and_then s (λ found. Ok (record { step = long_in STEP_PLACE numbers; answer = found })))
    (λ (x : Reply). Ok (body.Reply k x))) (answer_again numbers k r.answer (reply_of k r.step) to says)
    ∙ ap (λ (s : ℕ). reply_body k s r.answer) step

pub body_again : (numbers : List ℕ) (b : Body) → IsBody b → Says numbers (said_of b) → body_from numbers (body_piece b) ≡ Ok b
body_again numbers (body.Request q) fits says =
    let it = request_says numbers q says in
    body_by numbers (request_piece q) false (kind_of q) (is_no (byte_in ROLE_PLACE numbers) it.0)
    (kind_again numbers (kind_of q) it.1 it.2)
    ∙ request_again numbers q
body_again numbers (body.Reply k r) fits says =
    let kept = answer_keeps r.answer (reply_of k r.step) in
    body_by numbers (answer_piece r.answer) true k (is_yes (byte_in ROLE_PLACE numbers) (says.is_reply ∙ kept.0))
    (kind_again numbers k (says.kind ∙ kept.1) (reply_rest numbers k r.answer r.step fits.3 says))
    ∙ reply_again numbers k r fits.3 says

-- ---- the piece

-- what is said of a piece, or that there is none
abbrev pub PieceSaid : Said → Option Piece → Type 0
PieceSaid said None = said.is_piece ≡ 0
PieceSaid said (Some piece) = (said.is_piece ≡ 1) × (said.point ≡ piece.point) × (said.len ≡ piece.len)

pub piece_is_said : (b : Body) → PieceSaid (said_of b) (body_piece b)
piece_is_said (body.Request request.Next) = refl
piece_is_said (body.Request (request.Spread s)) = refl
piece_is_said (body.Request request.Query) = refl
piece_is_said (body.Request (request.PreWrite t p)) = (refl, refl, refl)
piece_is_said (body.Request (request.Finalize t)) = refl
piece_is_said (body.Request (request.Fetch t)) = refl
piece_is_said (body.Reply k r) = of_answer r.answer (reply_of k r.step) refl
  where
    of_answer : (a : Answer) (said : Said) → said.is_piece ≡ 0 → PieceSaid (with_answer a said) (answer_piece a)
    of_answer answer.Done said none = none
    of_answer (answer.Pointer s) said none = none
    of_answer (answer.Greatest t) said none = none
    of_answer (answer.Piece None) said none = none
    of_answer (answer.Piece (Some p)) said none = (refl, refl, refl)

abbrev piece_with : List ℕ → Strings → ℕ → ℕ → Result (Option Piece × Strings) Fault
piece_with bytes rest point len = Ok (Some (record { point = point; len = len; bytes = bytes }), rest)

pub piece_again : (numbers : List ℕ) (said : Said) (piece : Option Piece) (rest : Strings) → Says numbers said → PieceSaid said piece
    → first_piece numbers (piece_strings piece ++ rest) ≡ Ok (piece, rest)
unfolding first_piece piece_if first_string
piece_again numbers said None rest says is =
    ap (λ r. and_then r (λ is_piece. piece_if is_piece numbers rest)) (is_no (byte_in PIECE_PLACE numbers) (says.is_piece ∙ is))
piece_again numbers said (Some p) rest says is =
    ap (λ r. and_then r (λ is_piece. piece_if is_piece numbers (p.bytes ∷ rest)))
    (is_yes (byte_in PIECE_PLACE numbers) (says.is_piece ∙ is.0))
    ∙ ap₂ (piece_with p.bytes rest) (says.point ∙ is.1) (says.len ∙ is.2)
