-- The bytes of messages.
use Rattle.std.proofs.Common.{◌≡◌, ℕ, zero, suc, ◌+◌, List}
use Rattle.std.proofs.Common.{[], ◌∷◌, ◌++◌, length, set, Some, refl, ap, ◌∙◌, arith, slice_get}
use Rattle.std.proofs.lemmas.List.Sums.{sum_by-cons, sum_by-append}
use Rattle.std.proofs.lemmas.Option.{same_Some}
use Rattle.std.specs.List.{remove}
use Rattle.tag.specs.declared.tag.Tag.{Tag}
use Rattle.piece.specs.declared.piece.Piece.{Piece}
use Rattle.bank.specs.declared.kind.Kind.{Kind}
use Rattle.bank.specs.declared.kind.Kind.TheVariants.{PreWrite}
use Rattle.mail.specs.declared.message.Message.{Message}
use Rattle.mail.specs.Message.{request_bytes, message_bytes}
use Rattle.mail.specs.Mail.{mail_bytes}
use Rattle.record.specs.Accounts.{member_sum}
use Rattle.record.specs.Sending.{request_to, requests}
use Rattle.mail.specs.declared.message.Body.TheVariants as body

-- Mail

pub mail-cons : (message : Message) (mail : List Message) → mail_bytes (message ∷ mail) ≡ message_bytes message + mail_bytes mail
mail-cons message mail = sum_by-cons message_bytes message mail

pub mail-append : (xs ys : List Message) → mail_bytes (xs ++ ys) ≡ mail_bytes xs + mail_bytes ys
mail-append xs ys = sum_by-append message_bytes xs ys

pub mail-one : (message : Message) → mail_bytes (message ∷ []) ≡ message_bytes message
mail-one message = omega (arith, mail-cons message [])

-- another message in the place of one
pub mail-set : (mail : List Message) (place : ℕ) (old new : Message) → slice_get mail place ≡ Some old →
    mail_bytes (set mail place new) + message_bytes old ≡ mail_bytes mail + message_bytes new
mail-set [] place old new at = absurd (cc)
mail-set (message ∷ mail) zero old new at =
    let same : message_bytes message ≡ message_bytes old = ap message_bytes (same_Some message old at) in
    omega (arith, mail-cons new mail, mail-cons message mail, same)
mail-set (message ∷ mail) (suc place) old new at =
    let rest = mail-set mail place old new at in
    omega (arith, mail-cons message (set mail place new), mail-cons message mail, rest)

-- the mail without one message
pub mail-remove : (mail : List Message) (place : ℕ) (message : Message) → slice_get mail place ≡ Some message →
    mail_bytes (remove mail place) + message_bytes message ≡ mail_bytes mail
mail-remove [] place message at = absurd (cc)
mail-remove (first ∷ mail) zero message at =
    let same : message_bytes first ≡ message_bytes message = ap message_bytes (same_Some first message at) in
    omega (arith, mail-cons first mail, same)
mail-remove (first ∷ mail) (suc place) message at =
    let rest = mail-remove mail place message at in
    omega (arith, mail-cons first (remove mail place), mail-cons first mail, rest)

-- the requests of a phase
pub requests_bytes : (call phase : ℕ) (kind : Kind) (position : ℕ) (servers : List ℕ) (member : ℕ) (piece : ℕ → Piece) →
    mail_bytes (requests call phase kind position servers member piece)
    ≡ member_sum (λ i. request_bytes (request_to kind (piece i))) member (length servers)
requests_bytes call phase kind position [] member piece = refl
requests_bytes call phase kind position (server ∷ servers) member piece =
    mail-cons
    (record { call = call; phase = phase; position = position; member = member; body = body.Request (request_to kind (piece member)) })
    (requests call phase kind position servers (suc member) piece)
    ∙ ap (λ n. request_bytes (request_to kind (piece member)) + n) (requests_bytes call phase kind position servers (suc member) piece)

pub none_sum : (f : ℕ → ℕ) → ((i : ℕ) → f i ≡ 0) → (member count : ℕ) → member_sum f member count ≡ 0
none_sum f none member zero = refl
none_sum f none member (suc count) = let first = none member in let rest = none_sum f none (suc member) count in omega arith

-- only a pre-write sends pieces
pub no_piece : (kind : Kind) → ((tag : Tag) → kind ≡ PreWrite tag → ⊥) → (piece : Piece) →
    request_bytes (request_to kind piece) ≡ 0
no_piece kind plain piece = grind arith
