-- Which letters are requests, and which are replies.
use Rattle.std.proofs.Common.{◌≡◌, ◌⊎◌, inl, inr, ℕ, suc, Bool, true, false, cond, List, [], ◌∷◌, ◌++◌, map, Option, None, Some}
use Rattle.std.proofs.Common.{zero, is_some, slice_get, refl, sym, subst}
use Rattle.std.specs.List.{AllByRecursion}
use Rattle.bank.specs.Bank.{empty_piece}
use Rattle.bank.specs.declared.kind.Kind.{Kind}
use Rattle.bank.specs.declared.kind.Kind.TheVariants.{Next, Spread}
use Rattle.bank.specs.declared.reply.Reply.{Reply}
use Rattle.bank.specs.declared.status.Status.TheVariants.{Pending}
use Rattle.encoder.specs.Fragment.{fragment}
use Rattle.layout.specs.Layout.{Layout}
use Rattle.mail.specs.declared.message.Body.{Body}
use Rattle.mail.specs.declared.message.Body.TheVariants as body
use Rattle.open_calls.specs.OpenCalls.{NodeCall, due_phase, open_call}
use Rattle.piece.specs.declared.piece.Piece.{Piece}
use Rattle.record.specs.declared.call.CallKind.{CallKind}
use Rattle.record.specs.declared.call.CallKind.TheVariants.{Read, Write, Move}
use Rattle.record.specs.declared.stage.Stage.{Stage}
use Rattle.record.specs.declared.stage.Stage.TheVariants.{ReadNext}
use Rattle.record.specs.Legal.{first_stage}
use Rattle.record.specs.Sending.{requests}
use Rattle.letter.specs.declared.letter.Letter.{Letter}
use Rattle.letter.specs.declared.start.Start.{Start}
use Rattle.letter.specs.declared.telling.Telling.{Telling}
use Rattle.mail.specs.Message.{is_request}
use Rattle.local_object.specs.Doing.{IsOutcome, is_askable, is_sent_back, is_served, serve_events, stray_events}
use Rattle.local_object.specs.Events.{LocalEvent, advanced_at, advanced_here, all_done, called_here, done_here}
use Rattle.local_object.specs.Events.{pieces_here, queried_here, reply_letters, served_here}
use Rattle.local_object.specs.Outcomes.{begun_here, is_read, learnt_from, letter_of, on_open_call, silent}
use Rattle.local_object.specs.Starting.{anew_number, first_number, number_at, reads_at, reads_here}
use Rattle.local_object.specs.KeptBanks.{kept_reply}
use Rattle.local_object.specs.Local.{LocalObject, bank_here, last_position, layout_here, with_heard}
use Rattle.local_object.specs.Resent.{IsResent, current_letters}
use Rattle.local_object.specs.Sent.{asks_piece}
use Rattle.deeds.specs.Ids.{begun_id}
use Rattle.open_calls.proofs.ListLemmas.{all_append, all_weaker}

-- the letter is a request
abbrev pub Asks : Letter → Type 0
Asks letter = is_request letter.message.body ≡ true

-- the letter is a reply
abbrev pub Replies : Letter → Type 0
Replies letter = is_request letter.message.body ≡ false

-- the event serves no request, and sends none back
abbrev pub ServesNone : LocalEvent → Type 0
ServesNone (LocalEvent.Serve letter) = ⊥
ServesNone (LocalEvent.Redirect letter) = ⊥
ServesNone event = Unit {0}

requests_ask : (local : LocalObject) (asks : Bool) (layout : Layout) (call number : ℕ) (kind : Kind) (position : ℕ) (members : List ℕ)
    (member : ℕ) (piece : ℕ → Piece) →
    AllByRecursion Asks (map (letter_of local asks layout) (requests call number kind position members member piece))
requests_ask local asks layout call number kind position [] member piece = tt
requests_ask local asks layout call number kind position (server ∷ servers) member piece =
    (refl, requests_ask local asks layout call number kind position servers (suc member) piece)

begun_asks : (local : LocalObject) (id : ℕ) (call_kind : CallKind) (stage : Stage) (kind : Kind) (number position : ℕ)
    (layout : Option Layout) → AllByRecursion Asks (begun_here local id call_kind stage kind number position layout).sent
begun_asks local id call_kind stage kind number position None = tt
begun_asks local id call_kind stage kind number position (Some layout) =
    requests_ask local (is_read call_kind) layout id number kind position layout.members 0 empty_piece

called_asks : (local : LocalObject) (id : ℕ) (call_kind : CallKind) →
    AllByRecursion Asks (called_here local id call_kind).sent
called_asks local id call_kind =
    let start = local.start in
    begun_asks local id call_kind (ReadNext start start) Next (first_number start) start (layout_here local start)

reads_ask : (local : LocalObject) (call : NodeCall) (number start : ℕ) (layout : Option Layout) →
    AllByRecursion Asks (reads_at local call number start layout).sent
reads_ask local call number start None = tt
reads_ask local call number start (Some layout) =
    requests_ask local (is_read call.kind) layout call.id number Next start layout.members 0 empty_piece

reading_asks : (local : LocalObject) (number : NodeCall → ℕ) (call : Option NodeCall) →
    AllByRecursion Asks (on_open_call local call (λ c. reads_here local c (number c))).sent
reading_asks local number None = tt
reading_asks local number (Some call) =
    reads_ask local call (number call) local.start (layout_here local local.start)

advanced_asks : (local : LocalObject) (call : NodeCall) (next : Kind × ℕ) (layout : Option Layout) →
    AllByRecursion Asks (advanced_at fragment local call next layout).sent
advanced_asks local call next None = tt
advanced_asks local call next (Some layout) =
    requests_ask local false layout call.id (suc call.phase.number) next.0 next.1 layout.members 0 (pieces_here fragment layout call)

due_asks : (local : LocalObject) (call : NodeCall) (next : Option (Kind × ℕ)) →
    AllByRecursion Asks (advanced_here fragment local call next).sent
due_asks local call None = tt
due_asks local call (Some next) = advanced_asks local call next (layout_here local next.1)

open_asks : (local : LocalObject) (call : Option NodeCall) →
    AllByRecursion Asks (on_open_call local call (λ c. advanced_here fragment local c (due_phase c))).sent
open_asks local None = tt
open_asks local (Some call) = due_asks local call (due_phase call)

silent_asks : (local : LocalObject) (call : Option NodeCall) (change : NodeCall → LocalObject) →
    AllByRecursion Asks (on_open_call local call (λ c. silent (change c))).sent
silent_asks local None change = tt
silent_asks local (Some call) change = tt

queried_asks : (local : LocalObject) (call : NodeCall) (layout : Option Layout) →
    AllByRecursion Asks (queried_here local call layout).sent
queried_asks local call None = tt
queried_asks local call (Some layout) = tt

querying_asks : (local : LocalObject) (call : Option NodeCall) →
    AllByRecursion Asks (on_open_call local call (λ c. queried_here local c (layout_here local c.phase.position))).sent
querying_asks local None = tt
querying_asks local (Some call) = queried_asks local call (layout_here local call.phase.position)

-- all letters of an event that serves no request, and sends none back, are requests
event_asks : (local : LocalObject) (event : LocalEvent) → ServesNone event →
    AllByRecursion Asks (done_here fragment local event).sent
event_asks local (LocalEvent.BeginRead id) none =
    called_asks local id Read
event_asks local (LocalEvent.BeginWrite id value) none =
    called_asks local id (Write value)
event_asks local (LocalEvent.BeginMove id layout) none =
    let last = last_position local in
    let next = with_heard local (suc last) layout in
    begun_asks next id Move (first_stage Move last) (Spread Pending) 1 last (layout_here next last)
event_asks local (LocalEvent.Advance id) none = open_asks local (open_call local.calls id)
event_asks local (LocalEvent.Serve letter) none = absurd none
event_asks local (LocalEvent.Take letter) none =
    let next = learnt_from local letter in silent_asks next (open_call next.calls letter.message.call) _
event_asks local (LocalEvent.Settle id value) none = silent_asks local (open_call local.calls id) _
event_asks local (LocalEvent.Answer id) none = tt
event_asks local (LocalEvent.GiveUp id) none = tt
event_asks local (LocalEvent.Close position) none = tt
event_asks local (LocalEvent.Grow id) none = tt
event_asks local (LocalEvent.Hear letter) none = tt
event_asks local (LocalEvent.Redirect letter) none = absurd none
event_asks local (LocalEvent.ReadOn id) none =
    reading_asks local (λ call. number_at call local.start) (open_call local.calls id)
event_asks local (LocalEvent.BeginAnew id) none =
    reading_asks local (λ call. anew_number call local.start) (open_call local.calls id)
event_asks local (LocalEvent.Raise position) none = tt
event_asks local (LocalEvent.EndEarly id value) none = tt
event_asks local (LocalEvent.Query id) none = querying_asks local (open_call local.calls id)

all_ask : (local : LocalObject) (events : List LocalEvent) → AllByRecursion ServesNone events →
    AllByRecursion Asks (all_done fragment local events).sent
all_ask local [] none = tt
all_ask local (event ∷ events) none =
    let first = done_here fragment local event in
    all_append Asks first.sent (all_done fragment first.local events).sent (event_asks local event none.0)
    (all_ask first.local events none.1)

pub done_asks : (old new : LocalObject) (events : List LocalEvent) (letters : List Letter) → IsOutcome old events new letters →
    AllByRecursion ServesNone events → AllByRecursion Asks letters
done_asks old new events letters done none =
    subst (λ (ls : List Letter). AllByRecursion Asks ls) (sym done.letters) (all_ask old events none)

-- an event that begins a call serves no request, and sends none back
pub begins_serve_none : (event : LocalEvent) (id : ℕ) → begun_id event ≡ Some id → ServesNone event
begins_serve_none (LocalEvent.BeginRead id) other is = tt
begins_serve_none (LocalEvent.BeginWrite id value) other is = tt
begins_serve_none (LocalEvent.BeginMove id layout) other is = tt
begins_serve_none (LocalEvent.Advance id) other is = tt
begins_serve_none (LocalEvent.Serve letter) other is = absurd (cc)
begins_serve_none (LocalEvent.Take letter) other is = tt
begins_serve_none (LocalEvent.Settle id value) other is = tt
begins_serve_none (LocalEvent.Answer id) other is = tt
begins_serve_none (LocalEvent.GiveUp id) other is = tt
begins_serve_none (LocalEvent.Close position) other is = tt
begins_serve_none (LocalEvent.Grow id) other is = tt
begins_serve_none (LocalEvent.Hear letter) other is = tt
begins_serve_none (LocalEvent.Redirect letter) other is = absurd (cc)
begins_serve_none (LocalEvent.ReadOn id) other is = tt
begins_serve_none (LocalEvent.BeginAnew id) other is = tt
begins_serve_none (LocalEvent.Raise position) other is = tt
begins_serve_none (LocalEvent.EndEarly id value) other is = tt
begins_serve_none (LocalEvent.Query id) other is = tt

-- Letters that are sent again

all_at : (P : Letter → Type 0) (letters : List Letter) → AllByRecursion P letters → (i : ℕ) (letter : Letter) →
    slice_get letters i ≡ Some letter → P letter
all_at P [] all i letter at = absurd (cc)
all_at P (first ∷ letters) all zero letter at = let same : first ≡ letter = cc in subst P same all.0
all_at P (first ∷ letters) all (suc i) letter at = all_at P letters all.1 i letter at

pub resent_ask : (local : LocalObject) (letters : List Letter) → AllByRecursion (IsResent fragment local) letters →
    AllByRecursion Asks letters
resent_ask local letters resent =
    all_weaker (IsResent fragment local) Asks
    (λ letter is. all_at Asks (current_letters fragment local is.call is.layout)
    (requests_ask local (asks_piece is.call.kind is.call.stage) is.layout is.call.id is.call.phase.number is.call.phase.kind
    is.call.phase.position is.layout.members 0 (pieces_here fragment is.layout is.call))
    is.place letter is.at) letters resent

-- Replies, and requests that are sent back

-- the letter is a reply, or it is the request that came, but for the start that it tells
abbrev pub RepliesTo : (came : Letter) → Letter → Type 0
RepliesTo came letter = Replies letter ⊎ ((start : Option Start) × (came ≡ record letter { start = start }))

served_replies : (local : LocalObject) (letter : Letter) (message : Body) →
    AllByRecursion (RepliesTo letter) ((served_here local letter message).sent ++ [])
served_replies local letter (body.Request asked) =
    go _ (kept_reply (bank_here local letter.message.position letter.message.member) asked)
  where
    go : (told : Option Telling) (made : Option Reply) →
        AllByRecursion (RepliesTo letter) (reply_letters local letter told made ++ [])
    go told None = tt
    go told (Some made) = (inl refl, tt)
served_replies local letter (body.Reply kind made) = tt

stray_replies : (local : LocalObject) (letter : Letter) (hears back : Bool) → AllByRecursion (RepliesTo letter)
    (all_done fragment local (cond hears (LocalEvent.Hear letter ∷ []) [] ++ cond back (LocalEvent.Redirect letter ∷ []) [])).sent
stray_replies local letter true true = (inr (letter.start, refl), tt)
stray_replies local letter true false = tt
stray_replies local letter false true = (inr (letter.start, refl), tt)
stray_replies local letter false false = tt

pub all_reply : (local new : LocalObject) (letter : Letter) (replies : List Letter) →
    IsOutcome local (serve_events local letter) new replies → AllByRecursion (RepliesTo letter) replies
all_reply local new letter replies done =
    subst (λ (ls : List Letter). AllByRecursion (RepliesTo letter) ls) (sym done.letters)
    (go (is_served local letter) (is_askable letter))
  where
    go : (served askable : Bool) → AllByRecursion (RepliesTo letter) (all_done fragment local
        (cond served (LocalEvent.Serve letter ∷ []) (cond askable (stray_events local letter) []))).sent
    go true askable = served_replies (learnt_from local letter) letter letter.message.body
    go false true = stray_replies local letter (is_some letter.start) (is_sent_back local letter)
    go false false = tt
