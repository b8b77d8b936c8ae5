-- No piece is longer than a value may be.
use Rattle.std.proofs.Common.{◌≡◌, ℕ, zero, suc, ◌+◌, ◌*◌, ◌<◌, ◌≤◌, List, [], ◌∷◌, length, Option}
use Rattle.std.proofs.Common.{Some, None, sym, subst, inl, inr, refl, arith}
use Rattle.std.specs.List.{AllByRecursion}
use Rattle.std.proofs.lemmas.Grind.{div_ceil_times}
use Rattle.tag.specs.declared.limits.TheConstants.{LONGEST_VALUE, MOST_BYTES, MOST_MESSAGES}
use Rattle.tag.specs.declared.tag.Tag.{Tag}
use Rattle.piece.specs.declared.piece.Piece.{Piece}
use Rattle.encoder.specs.Fragment.{fragment, fragment_len}
use Rattle.encoder.proofs.ColumnLemmas.{length-fragment}
use Rattle.layout.specs.Layout.{Layout, IsLawful}
use Rattle.bank.specs.Answer.{answer_bytes}
use Rattle.bank.specs.declared.kind.Kind.{Kind}
use Rattle.bank.specs.declared.kind.Kind.TheVariants as kind
use Rattle.bank.specs.declared.request.Request.{Request}
use Rattle.bank.specs.declared.request.Request.TheVariants as request
use Rattle.bank.specs.declared.reply.Answer.{Answer}
use Rattle.bank.specs.declared.reply.Answer.TheVariants as answer
use Rattle.bank.specs.Knowledge.{IsTrueAnswer}
use Rattle.mail.specs.declared.message.Message.{Message}
use Rattle.mail.specs.declared.message.Body.{Body}
use Rattle.mail.specs.declared.message.Body.TheVariants as body
use Rattle.mail.specs.Message.{message_bytes, body_bytes, request_bytes}
use Rattle.mail.specs.Mail.{mail_bytes}
use Rattle.mail.proofs.MailBytesLemmas.{pieces_fit}
use Rattle.record.specs.Records.{Object, layout_at, bank_at, no_layout}
use Rattle.record.specs.Knowledge.{IsTruePhase}
use Rattle.record.specs.Fragments.{IsCoded, IfCoded, body_tag, body_piece, answer_tag, answer_piece}
use Rattle.record.specs.Journals.{IsJournaled}
use Rattle.soundness.specs.Sound.{IsSound, IsPosted}
use Rattle.register.specs.Kept.{HasRoomIfFew}
use Rattle.soundness.proofs.ListLemmas.{all_get}
use Rattle.std.proofs.lemmas.Option.{get_or_from_slice_get}
use Rattle.register.proofs.ListLemmas.{found}

le_times : (y k : ℕ) → 1 ≤ k → y ≤ y * k
le_times zero k some = omega arith
le_times (suc y) k some = let rest = le_times y k some in grind (arith, rest, some)

no_more : (x len k : ℕ) → 1 ≤ k → x * k < len + k → x ≤ len
no_more zero len k some less = omega arith
no_more (suc y) len k some less = let rest = le_times y k some in grind (arith, rest, less)

-- a fragment is no longer than its value
pub fragment_short : (value : List ℕ) (k x : ℕ) → 1 ≤ k → length (fragment value k x) ≤ length value
fragment_short value k x some =
    let len = length-fragment value k x in
    let most = no_more (fragment_len k (length value)) (length value) k some (div_ceil_times (length value) k (omega (arith, some))).1 in
    subst (λ n. n ≤ length value) (sym len) most

abbrev pub IsShort : Option Piece → Type 0
IsShort None = Unit {0}
IsShort (Some piece) = length piece.bytes ≤ LONGEST_VALUE

-- a position that is there has a threshold
pub some_k : (object : Object) (step : ℕ) → IsSound fragment object step → (position : ℕ) → position < length object.layouts
    → 1 ≤ (layout_at object position).k
some_k object step sound position within =
    let there = found object.layouts position within in
    let lawful = all_get IsLawful object.layouts position there.0 sound.legal.layouts there.1 in
    subst (λ (l : Layout). 1 ≤ l.k) (sym (get_or_from_slice_get object.layouts position there.0 no_layout there.1)) lawful.some

journaled_short : (object : Object) (step : ℕ) → IsSound fragment object step → (tag : Tag) (value : List ℕ) → IsJournaled object tag value
    → length value ≤ LONGEST_VALUE
journaled_short object step sound tag value (inl opening) = subst (λ v. length v ≤ LONGEST_VALUE) (sym opening.1) (omega arith)
journaled_short object step sound tag value (inr written) =
    (sound.values.written written.index written.call value written.at written.kind).1

-- a piece of a journaled value is short
pub coded_short : (object : Object) (step : ℕ) → IsSound fragment object step → (position member : ℕ) → position < length object.layouts
    → (tag : Tag) (piece : Option Piece)
    → IsCoded fragment object position member tag piece → IsShort piece
coded_short object step sound position member within tag None coded = tt
coded_short object step sound position member within tag (Some piece) coded =
    let is = coded.fits piece refl in
    let short = fragment_short coded.value (layout_at object position).k member (some_k object step sound position within) in
    let longest = journaled_short object step sound tag coded.value coded.journaled in
    subst (λ bs. length bs ≤ LONGEST_VALUE) (sym is.bytes) (omega (arith, short, longest))

if_short : (object : Object) (step : ℕ) → IsSound fragment object step → (position member : ℕ) → position < length object.layouts
    → (tag : Tag) (piece : Option Piece)
    → IfCoded fragment object position member (Some tag) piece → IsShort piece
if_short object step sound position member within tag piece coded = coded_short object step sound position member within tag piece coded

-- what waits is short

pub posted_within : (object : Object) (step : ℕ) → IsSound fragment object step → (message : Message) → IsPosted object message
    → message.position < length object.layouts
posted_within object step sound message posted =
    let truth = all_get (IsTruePhase object) posted.call.phases posted.place posted.phase
    (sound.legal.calls posted.index posted.call posted.at).phases posted.within in
    subst (λ p. p < length object.layouts) (sym posted.same_position) truth.placed

answer_short : (object : Object) (step : ℕ) → IsSound fragment object step → (position member made : ℕ) → position < length object.layouts
    → (k : Kind) (a : Answer)
    → IsTrueAnswer (bank_at object position member) made k a → IfCoded fragment object position member (answer_tag k a) (answer_piece a)
    → answer_bytes a ≤ LONGEST_VALUE
answer_short object step sound position member made within (kind.Fetch tag) (answer.Piece (Some piece)) truth coded =
    if_short object step sound position member within tag (Some piece) coded
answer_short object step sound position member made within _ (answer.Piece (Some piece)) truth coded = absurd truth
answer_short object step sound position member made within k _ truth coded = omega arith

message_short : (object : Object) (step : ℕ) → IsSound fragment object step → (message : Message) → IsPosted object message
    → IfCoded fragment object message.position message.member (body_tag message.body) (body_piece message.body)
    → message_bytes message ≤ LONGEST_VALUE
message_short object step sound message posted coded = go message.body refl
  where
    within : message.position < length object.layouts
    within = posted_within object step sound message posted

    coded_as : (b : Body) → message.body ≡ b → IfCoded fragment object message.position message.member (body_tag b) (body_piece b)
    coded_as b is = subst (λ (b : Body). IfCoded fragment object message.position message.member (body_tag b) (body_piece b)) is coded

    asks : (q : Request) → message.body ≡ body.Request q → request_bytes q ≤ LONGEST_VALUE
    asks (request.PreWrite tag piece) is = if_short object step sound message.position message.member within tag (Some piece)
        (coded_as (body.Request (request.PreWrite tag piece)) is)
    asks _ is = omega arith

    go : (b : Body) → message.body ≡ b → body_bytes b ≤ LONGEST_VALUE
    go (body.Request q) is = asks q is
    go (body.Reply k made) is =
        answer_short object step sound message.position message.member made.step within k made.answer (posted.reply k made is).1
        (coded_as (body.Reply k made) is)

pub mail_short : (object : Object) (step : ℕ) → IsSound fragment object step
    → AllByRecursion (λ m. message_bytes m ≤ LONGEST_VALUE) object.mail
mail_short object step sound = go object.mail sound.mail sound.coded.mail
  where
    go : (mail : List Message) → AllByRecursion (IsPosted object) mail
        → AllByRecursion (λ (message : Message). IfCoded fragment object message.position message.member (body_tag message.body)
        (body_piece message.body)) mail
        → AllByRecursion (λ m. message_bytes m ≤ LONGEST_VALUE) mail
    go [] posted coded = tt
    go (m ∷ ms) posted coded = (message_short object step sound m posted.0 coded.0, go ms posted.1 coded.1)

-- so a mail has room for the pieces of as many short messages as may wait

pub few_have_room : (messages : List Message) → AllByRecursion (λ m. message_bytes m ≤ LONGEST_VALUE) messages → HasRoomIfFew messages
few_have_room messages short few = let fit = pieces_fit messages few short in omega (arith, fit)

pub reply_has_room : (object : Object) (step : ℕ) → IsSound fragment object step → length object.mail ≤ MOST_MESSAGES → (bytes : ℕ)
    → bytes ≤ LONGEST_VALUE → mail_bytes object.mail + bytes ≤ MOST_BYTES
reply_has_room object step sound few bytes short = let fit =
    pieces_fit object.mail few (mail_short object step sound) in omega (arith, fit, short)
