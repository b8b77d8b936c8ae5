-- Steps that change the mail alone keep a record sound.
use Rattle.std.proofs.Common.{◌≡◌, ℕ, zero, suc, ◌+◌, ◌<◌, Bool, true, false, cond, List, []}
use Rattle.std.proofs.Common.{◌∷◌, ◌++◌, length, Some, refl, inl, arith, slice_get}
use Rattle.std.specs.List.{AllByRecursion, remove}
use Rattle.piece.specs.declared.piece.Piece.{Piece}
use Rattle.bank.specs.declared.kind.Kind.{Kind}
use Rattle.bank.specs.Serve.{kind_of}
use Rattle.mail.specs.declared.message.Message.{Message}
use Rattle.mail.specs.Phase.{Phase}
use Rattle.record.specs.Records.{Call, Object, layout_at}
use Rattle.record.specs.Fragments.{Code, IfCoded, request_tag, request_piece}
use Rattle.soundness.specs.Sound.{IsSound}
use Rattle.record.specs.Sending.{request_to, requests, missing}
use Rattle.record.specs.Steps.{lost_object, repeated_object}
use Rattle.mail.specs.declared.message.Body.TheVariants as body
use Rattle.soundness.proofs.ListLemmas.{all_map, all_get, all_push}
use Rattle.soundness.proofs.Sound.ChangedCallLemmas.{Others}
use Rattle.soundness.proofs.Sound.GrowthLemmas.{calls_grow, unchanged, sizes_same}
use Rattle.soundness.proofs.Sound.GrownItemLemmas.{message_grows, grown_sound}
use Rattle.soundness.proofs.Sound.ItemLemmas.{MessageSound, sizes_of, turns_of, mail_of}

-- the record with other mail
abbrev pub Mailed : Object → List Message → Object
Mailed object mail = Others object mail object.calls

pub mailed_sound : {fragment : Code} {object : Object} {step now : ℕ} (mail : List Message) → IsSound fragment object step →
    step < now → AllByRecursion (MessageSound fragment object step) mail → IsSound fragment (Mailed object mail) now
mailed_sound {object = object} {now = now} mail sound less messages =
    let grows = calls_grow now object mail object.calls (λ index call at. unchanged index call at refl) in
    grown_sound sound less grows (sizes_same mail object.calls refl (sizes_of sound)) (turns_of sound) (λ i c e. inl e)
    (λ p i. inl (refl, refl)) (all_map (message_grows sound less grows) mail messages)

-- a message is lost
pub all_without : {A : Type 0} (P : A → Type 0) (xs : List A) (place : ℕ) → AllByRecursion P xs → AllByRecursion P (remove xs place)
all_without P (x ∷ xs) zero all = all.1
all_without P (x ∷ xs) (suc place) all = (all.0, all_without P xs place all.1)
all_without P [] zero all = tt
all_without P [] (suc place) all = tt

pub lost_sound : {fragment : Code} {object : Object} {step now : ℕ} (place : ℕ) → IsSound fragment object step → step < now →
    IsSound fragment (lost_object object place) now
lost_sound {object = object} place sound less =
    mailed_sound (remove object.mail place) sound less (all_without _ object.mail place (mail_of sound))

-- a message is repeated
pub repeated_sound : {fragment : Code} {object : Object} {step now : ℕ} (place : ℕ) (message : Message) →
    slice_get object.mail place ≡ Some message → IsSound fragment object step → step < now →
    IsSound fragment (repeated_object object message) now
repeated_sound {object = object} place message at sound less =
    mailed_sound (object.mail ++ message ∷ []) sound less
    (all_push _ object.mail message (mail_of sound) (all_get _ object.mail place message (mail_of sound) at))

-- requests to each member
abbrev pub request_message : (call phase : ℕ) → Kind → (position : ℕ) → (ℕ → Piece) → (member : ℕ) → Message
request_message call phase kind position piece member =
    record { call = call; phase = phase; position = position; member = member; body = body.Request (request_to kind (piece member)) }

-- what such a request asks, and of which tag it speaks
pub kind_of-request_to : (kind : Kind) (piece : Piece) → kind_of (request_to kind piece) ≡ kind
kind_of-request_to kind piece = grind arith

-- a request of a phase is sound where its tag and piece are coded
pub request_sound : {fragment : Code} {object : Object} {now place : ℕ} {call : Call} (index : ℕ) (phase : Phase) (piece : ℕ → Piece)
    (member : ℕ) → slice_get object.calls index ≡ Some call → slice_get call.phases place ≡ Some phase → phase.call ≡ call.id →
    phase.number ≡ suc place → member < length (layout_at object phase.position).members →
    IfCoded fragment object phase.position member (request_tag (request_to phase.kind (piece member)))
    (request_piece (request_to phase.kind (piece member))) →
    MessageSound fragment object now (request_message phase.call phase.number phase.kind phase.position piece member)
request_sound {place = place} {call = call} index phase piece member at within same_call same_phase below coded =
    grind (arith, kind_of-request_to)

pub all_requests : (P : Message → Type 0) (call phase : ℕ) (kind : Kind) (position : ℕ) (piece : ℕ →
    Piece) (servers : List ℕ) (member total : ℕ) → member + length servers ≡ total →
    ((i : ℕ) → i < total → P (request_message call phase kind position piece i)) →
    AllByRecursion P (requests call phase kind position servers member piece)
all_requests P call phase kind position piece [] member total e f = tt
all_requests P call phase kind position piece (server ∷ servers) member total e f =
    (f member (omega arith), all_requests P call phase kind position piece servers (suc member) total (omega arith) f)

pub all_append : (P : Message → Type 0) (xs ys : List Message) → AllByRecursion P xs → AllByRecursion P ys →
    AllByRecursion P (xs ++ ys)
all_append P [] ys a b = b
all_append P (x ∷ xs) ys a b = (a.0, all_append P xs ys a.1 b)

pub all_missing : (P : Message → Type 0) (mail : List Message) (replied : List ℕ) (messages : List Message) →
    AllByRecursion P messages → AllByRecursion P (missing mail replied messages)
all_missing P mail replied [] all = tt
all_missing P mail replied (message ∷ messages) all = go _ (all_missing P mail replied messages all.1)
  where
    go : (b : Bool) → AllByRecursion P (missing mail replied messages) →
        AllByRecursion P (cond b (missing mail replied messages) (message ∷ missing mail replied messages))
    go true rest = rest
    go false rest = (all.0, rest)
