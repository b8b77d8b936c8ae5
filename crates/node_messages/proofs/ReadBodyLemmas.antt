-- A body that is read is within its bits, and has the piece that was read.
use Rattle.std.proofs.Common.{◌≡◌, ◌⊎◌, ℕ, ◌==◌, Bool, true, false, List, Option, Some, None, Result, Ok}
use Rattle.std.proofs.Common.{refl, ap, subst, ◌∙◌, inl, inr}
use Rattle.std.specs.Prelude.{IfSome}
use Rattle.piece.specs.declared.piece.Piece.{Piece}
use Rattle.tag.specs.declared.tag.Tag.{Tag}
use Rattle.bank.specs.declared.kind.Kind.{Kind}
use Rattle.bank.specs.declared.kind.Kind.TheVariants as kind
use Rattle.bank.specs.declared.reply.Answer.{Answer}
use Rattle.bank.specs.declared.reply.Answer.TheVariants as answer
use Rattle.bank.specs.declared.reply.Reply.{Reply}
use Rattle.bank.specs.declared.request.Request.{Request}
use Rattle.bank.specs.declared.request.Request.TheVariants as request
use Rattle.mail.specs.declared.message.Body.{Body}
use Rattle.mail.specs.declared.message.Body.TheVariants as body
use Rattle.words.specs.Parts.{and_then}
use Rattle.words.proofs.PartLemmas.{bind_ok, chosen, ok_is}
use Rattle.node_messages.specs.declared.error.Fault.{Fault}
use Rattle.node_messages.specs.declared.places.TheConstants.{ROLE_PLACE, KIND_PLACE, STEP_PLACE}
use Rattle.node_messages.specs.Codes.{flag_from}
use Rattle.node_messages.specs.Head.{byte_in, long_in, request_piece}
use Rattle.node_messages.specs.Message.{is_answer_to, IsTag, IsPiece, IsKind, IsRequest, IsAnswer, IsBody}
use Rattle.node_messages.specs.Parts.{tag_in}
use Rattle.node_messages.specs.Reading.{status_in, tagged_from, kind_from}
use Rattle.node_messages.specs.Reading.{request_from, answer_from, reply_from, body_of_kind, body_from}
use Rattle.node_messages.specs.Strings.{answer_piece, body_piece}
use Rattle.node_messages.proofs.NumberLemmas.{long_below}

tag_fits : (numbers : List ℕ) → IsTag (tag_in numbers)
tag_fits numbers = (long_below _, long_below _)

tagged_fits : (code : ℕ) (tag : Tag) (k : Kind) → IsTag tag → tagged_from code tag ≡ Ok k → IsKind k
unfolding tagged_from
tagged_fits code tag k fits e =
    elim (chosen (code == 3) (Ok (kind.PreWrite tag)) _ k e) [
      | inl h ↦ subst IsKind (ok_is (kind.PreWrite tag) k h.1) fits
      | inr e2 ↦ elim (chosen (code == 4) (Ok (kind.Finalize tag)) _ k e2) [
        | inl h ↦ subst IsKind (ok_is (kind.Finalize tag) k h.1) fits
        | inr e3 ↦ elim (chosen (code == 5) (Ok (kind.Fetch tag)) _ k e3) [
          | inl h ↦ subst IsKind (ok_is (kind.Fetch tag) k h.1) fits
          | inr e4 ↦ absurd cc
        ]
      ]
    ]

kind_fits : (numbers : List ℕ) (code : ℕ) (k : Kind) → kind_from code numbers ≡ Ok k → IsKind k
unfolding kind_from
kind_fits numbers code k e =
    elim (chosen (code == 0) (Ok kind.Next) _ k e) [
      | inl h ↦ subst IsKind (ok_is kind.Next k h.1) tt
      | inr e2 ↦ elim (chosen (code == 1) (and_then (status_in numbers) (λ found. Ok (kind.Spread found))) _ k e2) [
        | inl h ↦
            let s = bind_ok (status_in numbers) (λ found. Ok (kind.Spread found)) k h.1 in
            subst IsKind (ok_is (kind.Spread s.0) k s.2) tt
        | inr e3 ↦ elim (chosen (code == 2) (Ok kind.Query) _ k e3) [
          | inl h ↦ subst IsKind (ok_is kind.Query k h.1) tt
          | inr e4 ↦ tagged_fits code (tag_in numbers) k (tag_fits numbers) e4
        ]
      ]
    ]

-- a body has this piece, or none
abbrev pub HasPiece : Option Piece → Option Piece → Type 0
HasPiece piece of_body = (of_body ≡ piece) ⊎ (of_body ≡ None)

-- a request that was read
abbrev ReadRequest : Option Piece → Request → Type 0
ReadRequest piece q = IsRequest q × HasPiece piece (request_piece q)

request_ok : (k : Kind) (piece : Option Piece) (q : Request) → IsKind k → IfSome piece IsPiece → request_from k piece ≡ Ok q
    → ReadRequest piece q
unfolding request_from
request_ok kind.Next piece q fits p e = subst (ReadRequest piece) (ok_is request.Next q e) (tt, inr refl)
request_ok (kind.Spread s) piece q fits p e = subst (ReadRequest piece) (ok_is (request.Spread s) q e) (tt, inr refl)
request_ok kind.Query piece q fits p e = subst (ReadRequest piece) (ok_is request.Query q e) (tt, inr refl)
request_ok (kind.PreWrite t) None q fits p e = absurd cc
request_ok (kind.PreWrite t) (Some piece) q fits p e =
    subst (ReadRequest (Some piece)) (ok_is (request.PreWrite t piece) q e) ((fits, p), inl refl)
request_ok (kind.Finalize t) piece q fits p e = subst (ReadRequest piece) (ok_is (request.Finalize t) q e) (fits, inr refl)
request_ok (kind.Fetch t) piece q fits p e = subst (ReadRequest piece) (ok_is (request.Fetch t) q e) (fits, inr refl)

-- an answer that was read
abbrev ReadAnswer : Kind → Option Piece → Answer → Type 0
ReadAnswer k piece a = IsAnswer a × (is_answer_to k a ≡ true) × HasPiece piece (answer_piece a)

answer_ok : (numbers : List ℕ) (k : Kind) (piece : Option Piece) (a : Answer) → IfSome piece IsPiece
    → answer_from k numbers piece ≡ Ok a → ReadAnswer k piece a
unfolding answer_from
answer_ok numbers kind.Next piece a p e =
    let s = bind_ok (status_in numbers) (λ found. Ok (answer.Pointer found)) a e in
    subst (ReadAnswer kind.Next piece) (ok_is (answer.Pointer s.0) a s.2) (tt, refl, inr refl)
answer_ok numbers (kind.Spread s) piece a p e =
    subst (ReadAnswer (kind.Spread s) piece) (ok_is answer.Done a e) (tt, refl, inr refl)
answer_ok numbers kind.Query piece a p e =
    subst (ReadAnswer kind.Query piece) (ok_is (answer.Greatest (tag_in numbers)) a e) (tag_fits numbers, refl, inr refl)
answer_ok numbers (kind.PreWrite t) piece a p e =
    subst (ReadAnswer (kind.PreWrite t) piece) (ok_is answer.Done a e) (tt, refl, inr refl)
answer_ok numbers (kind.Finalize t) piece a p e =
    subst (ReadAnswer (kind.Finalize t) piece) (ok_is answer.Done a e) (tt, refl, inr refl)
answer_ok numbers (kind.Fetch t) piece a p e =
    subst (ReadAnswer (kind.Fetch t) piece) (ok_is (answer.Piece piece) a e) (p, refl, inl refl)

-- a body that was read
abbrev ReadBody : Option Piece → Body → Type 0
ReadBody piece b = IsBody b × HasPiece piece (body_piece b)

abbrev body_read : Body → Result Body Fault
body_read b = Ok b

of_kind_ok : (numbers : List ℕ) (is_reply : Bool) (k : Kind) (piece : Option Piece) (b : Body) → IsKind k → IfSome piece IsPiece
    → body_of_kind is_reply k numbers piece ≡ Ok b → ReadBody piece b
unfolding body_of_kind reply_from
of_kind_ok numbers true k piece b fits p e =
    let r = bind_ok (reply_from k numbers piece) (λ r. Ok (body.Reply k r)) b e in
    let a = bind_ok (answer_from k numbers piece) (λ found. Ok (record { step = long_in STEP_PLACE numbers; answer = found })) r.0 r.1 in
    let it = answer_ok numbers k piece a.0 p a.1 in
    let reply : Reply = record { step = long_in STEP_PLACE numbers; answer = a.0 } in
    let found = ok_is (body.Reply k reply) b (ap (λ (r : Reply). body_read (body.Reply k r)) (ok_is reply r.0 a.2) ∙ r.2) in
    subst (ReadBody piece) found ((fits, long_below _, it.0, it.1), it.2)
of_kind_ok numbers false k piece b fits p e =
    let q = bind_ok (request_from k piece) (λ q. Ok (body.Request q)) b e in
    subst (ReadBody piece) (ok_is (body.Request q.0) b q.2) (request_ok k piece q.0 fits p q.1)

pub body_ok : (numbers : List ℕ) (piece : Option Piece) (b : Body) → IfSome piece IsPiece → body_from numbers piece ≡ Ok b
    → IsBody b × HasPiece piece (body_piece b)
unfolding body_from
body_ok numbers piece b p e =
    let f = bind_ok (flag_from (byte_in ROLE_PLACE numbers)) (λ is_reply. and_then (kind_from (byte_in KIND_PLACE numbers) numbers)
    (λ k. body_of_kind is_reply k numbers piece)) b e in
    let k = bind_ok (kind_from (byte_in KIND_PLACE numbers) numbers) (λ k. body_of_kind f.0 k numbers piece) b f.2 in
    of_kind_ok numbers f.0 k.0 piece b (kind_fits numbers (byte_in KIND_PLACE numbers) k.0 k.1) p k.2
