-- The letters that a node sends have lawful layouts, if its objects are its own.
use Rattle.std.proofs.Common.{◌≡◌, ℕ, zero, suc, Bool, true, false, cond, eqb, List, [], ◌∷◌, map, Option, None, Some, slice_get}
use Rattle.std.proofs.Common.{refl, subst}
use Rattle.std.specs.List.{AllByRecursion}
use Rattle.bank.specs.Bank.{empty_piece}
use Rattle.bank.specs.declared.kind.Kind.{Kind}
use Rattle.bank.specs.declared.kind.Kind.TheVariants.{Next, Spread}
use Rattle.bank.specs.declared.reply.Answer.{Answer as BankAnswer}
use Rattle.bank.specs.declared.reply.Answer.TheVariants as answer
use Rattle.bank.specs.declared.reply.Reply.{Reply}
use Rattle.bank.specs.declared.request.Request.{Request}
use Rattle.bank.specs.declared.request.Request.TheVariants as request
use Rattle.bank.specs.declared.status.Status.{Status}
use Rattle.bank.specs.declared.status.Status.TheVariants as status
use Rattle.open_calls.proofs.ListLemmas.{all_weaker}
use Rattle.encoder.specs.Fragment.{fragment}
use Rattle.layout.specs.Layout.{IsLawful, Layout}
use Rattle.mail.specs.declared.message.Body.{Body}
use Rattle.mail.specs.declared.message.Body.TheVariants as body
use Rattle.open_calls.specs.OpenCalls.{NodeCall, due_phase, open_call}
use Rattle.piece.specs.declared.piece.Piece.{Piece}
use Rattle.record.specs.declared.call.CallKind.{CallKind}
use Rattle.record.specs.declared.stage.Stage.{Stage}
use Rattle.record.specs.Sending.{request_to, requests}
use Rattle.letter.specs.declared.letter.Letter.{Letter}
use Rattle.letter.specs.declared.start.Start.{Start}
use Rattle.letter.specs.declared.telling.Telling.{Telling}
use Rattle.local_object.specs.Events.{LocalEvent, advanced_at, advanced_here, done_here, pieces_here, queried_here}
use Rattle.local_object.specs.Events.{reply_letters, served_here}
use Rattle.local_object.specs.Outcomes.{begun_here, if_pointed, is_read, learnt_from, letter_of, next_in_answer, next_in_request}
use Rattle.local_object.specs.Outcomes.{on_open_call, silent}
use Rattle.local_object.specs.Sent.{asks_piece}
use Rattle.local_object.specs.Starting.{anew_number, number_at, reads_at, reads_here}
use Rattle.local_object.specs.KeptBanks.{kept_reply}
use Rattle.local_object.specs.Local.{LocalObject, Place, bank_here, heard_place, last_position, layout_here, layout_in, start_at}
use Rattle.local_object.specs.Local.{told_start, with_heard}
use Rattle.local_object.specs.May.{MayHappenHere}
use Rattle.local_object.specs.Resent.{IsResent, current_letters}
use Rattle.object_letters.specs.Rebuildable.{HasLawfulLayouts, IsFit, IsLawfulIfThere, IsLawfulStart, IsOwnPlace, IsRebuildable}
use Rattle.object_letters.proofs.PlaceLetterLemmas.{at_place}
use Rattle.object_letters.proofs.HeardPositionLemmas.{heard_rebuildable, letter_rebuildable}

-- Layouts

known_lawful : (local : LocalObject) → IsRebuildable local → (q : ℕ) → IsLawfulIfThere (layout_here local q)
known_lawful local is q = go (heard_place local.places q) refl
  where
    go : (o : Option Place) → heard_place local.places q ≡ o → IsLawfulIfThere (layout_in o)
    go None e = tt
    go (Some place) e = (at_place (IsOwnPlace local.node local.delta) local.places q place is.places e).0.lawful

start_lawful : (position : ℕ) (o : Option Layout) → IsLawfulIfThere o → IsLawfulStart (start_at position o)
start_lawful position None lawful = tt
start_lawful position (Some layout) lawful = go (eqb position 0)
  where
    go : (b : Bool) → IsLawfulStart (cond b None (Some (let s : Start = record { position = position; layout = layout } in s)))
    go true = tt
    go false = lawful

-- the start that a node tells
told_lawful : (local : LocalObject) → IsRebuildable local → IsLawfulStart (told_start local)
told_lawful local is = start_lawful local.start (layout_here local local.start) (known_lawful local is local.start)

pointed_lawful : (said : Status) (o : Option Layout) → IsLawfulIfThere o → IsLawfulIfThere (if_pointed said o)
pointed_lawful status.Unset o lawful = tt
pointed_lawful status.Pending o lawful = lawful
pointed_lawful status.Final o lawful = lawful

request_lawful : (asked : Request) (o : Option Layout) → IsLawfulIfThere o → IsLawfulIfThere (next_in_request asked o)
request_lawful request.Next o lawful = tt
request_lawful (request.Spread said) o lawful = pointed_lawful said o lawful
request_lawful request.Query o lawful = tt
request_lawful (request.PreWrite tag piece) o lawful = tt
request_lawful (request.Finalize tag) o lawful = tt
request_lawful (request.Fetch tag) o lawful = tt

answer_lawful : (made : BankAnswer) (o : Option Layout) → IsLawfulIfThere o → IsLawfulIfThere (next_in_answer made o)
answer_lawful answer.Done o lawful = tt
answer_lawful (answer.Pointer said) o lawful = pointed_lawful said o lawful
answer_lawful (answer.Greatest tag) o lawful = tt
answer_lawful (answer.Piece piece) o lawful = tt

-- Events

requests_lawful : (local : LocalObject) (asks : Bool) (layout : Layout) (call number : ℕ) (kind : Kind) (position : ℕ) (members : List ℕ)
    (member : ℕ) (piece : ℕ → Piece) → IsRebuildable local → IsLawful layout →
    AllByRecursion HasLawfulLayouts (map (letter_of local asks layout) (requests call number kind position members member piece))
requests_lawful local asks layout call number kind position [] member piece is lawful = tt
requests_lawful local asks layout call number kind position (server ∷ servers) member piece is lawful =
    let known = known_lawful local is (suc position) in
    let next = request_lawful (request_to kind (piece member)) (layout_here local (suc position)) known in (
      (lawful, next, told_lawful local is),
      requests_lawful local asks layout call number kind position servers (suc member) piece is lawful,
    )

begun_lawful : (local : LocalObject) (id : ℕ) (call_kind : CallKind) (stage : Stage) (kind : Kind) (number position : ℕ)
    (o : Option Layout) → IsRebuildable local → IsLawfulIfThere o →
    AllByRecursion HasLawfulLayouts (begun_here local id call_kind stage kind number position o).sent
begun_lawful local id call_kind stage kind number position None is lawful = tt
begun_lawful local id call_kind stage kind number position (Some layout) is lawful =
    requests_lawful local (is_read call_kind) layout id number kind position layout.members 0 empty_piece is lawful

advanced_lawful : (local : LocalObject) (call : NodeCall) (next : Kind × ℕ) (o : Option Layout) → IsRebuildable local →
    IsLawfulIfThere o → AllByRecursion HasLawfulLayouts (advanced_at fragment local call next o).sent
advanced_lawful local call next None is lawful = tt
advanced_lawful local call next (Some layout) is lawful =
    requests_lawful local false layout call.id (suc call.phase.number) next.0 next.1 layout.members 0
    (pieces_here fragment layout call) is lawful

due_lawful : (local : LocalObject) (call : NodeCall) (next : Option (Kind × ℕ)) → IsRebuildable local →
    AllByRecursion HasLawfulLayouts (advanced_here fragment local call next).sent
due_lawful local call None is = tt
due_lawful local call (Some next) is = advanced_lawful local call next (layout_here local next.1) is (known_lawful local is next.1)

open_lawful : (local : LocalObject) (call : Option NodeCall) → IsRebuildable local →
    AllByRecursion HasLawfulLayouts (on_open_call local call (λ c. advanced_here fragment local c (due_phase c))).sent
open_lawful local None is = tt
open_lawful local (Some call) is = due_lawful local call (due_phase call) is

reads_lawful : (local : LocalObject) (call : NodeCall) (number start : ℕ) (o : Option Layout) → IsRebuildable local →
    IsLawfulIfThere o → AllByRecursion HasLawfulLayouts (reads_at local call number start o).sent
reads_lawful local call number start None is lawful = tt
reads_lawful local call number start (Some layout) is lawful =
    requests_lawful local (is_read call.kind) layout call.id number Next start layout.members 0 empty_piece is lawful

reading_lawful : (local : LocalObject) (call : Option NodeCall) (number : NodeCall → ℕ) → IsRebuildable local →
    AllByRecursion HasLawfulLayouts (on_open_call local call (λ c. reads_here local c (number c))).sent
reading_lawful local None number is = tt
reading_lawful local (Some call) number is =
    reads_lawful local call (number call) local.start (layout_here local local.start) is (known_lawful local is local.start)

silent_lawful : (local : LocalObject) (call : Option NodeCall) (change : NodeCall → LocalObject) →
    AllByRecursion HasLawfulLayouts (on_open_call local call (λ c. silent (change c))).sent
silent_lawful local None change = tt
silent_lawful local (Some call) change = tt

queried_lawful : (local : LocalObject) (call : NodeCall) (o : Option Layout) →
    AllByRecursion HasLawfulLayouts (queried_here local call o).sent
queried_lawful local call None = tt
queried_lawful local call (Some layout) = tt

asked_lawful : (local : LocalObject) (call : Option NodeCall) →
    AllByRecursion HasLawfulLayouts (on_open_call local call
    (λ c. queried_here local c (layout_here local c.phase.position))).sent
asked_lawful local None = tt
asked_lawful local (Some call) = queried_lawful local call (layout_here local call.phase.position)

served_lawful : (local : LocalObject) (letter : Letter) (b : Body) → IsRebuildable local → IsLawful letter.layout →
    AllByRecursion HasLawfulLayouts (served_here local letter b).sent
served_lawful local letter (body.Request asked) is lawful = go _ (kept_reply (bank_here local q letter.message.member) asked)
  where
    q : ℕ
    q = letter.message.position

    go : (told : Option Telling) (o : Option Reply) → AllByRecursion HasLawfulLayouts (reply_letters local letter told o)
    go told None = tt
    go told (Some reply) =
        ((lawful, answer_lawful reply.answer (layout_here local (suc q)) (known_lawful local is (suc q)), told_lawful local is), tt)
served_lawful local letter (body.Reply kind made) is lawful = tt

pub event_lawful : (local : LocalObject) (event : LocalEvent) → IsRebuildable local → MayHappenHere fragment local event →
    IsFit event → AllByRecursion HasLawfulLayouts (done_here fragment local event).sent
event_lawful local (LocalEvent.BeginRead id) is may fit =
    begun_lawful local id _ _ Next _ local.start (layout_here local local.start) is (known_lawful local is local.start)
event_lawful local (LocalEvent.BeginWrite id value) is may fit =
    begun_lawful local id _ _ Next _ local.start (layout_here local local.start) is (known_lawful local is local.start)
event_lawful local (LocalEvent.BeginMove id layout) is may fit =
    let last = last_position local in
    let next = with_heard local (suc last) layout in
    let heard_is = heard_rebuildable local (suc last) layout may.0 is in
    begun_lawful next id _ _ (Spread status.Pending) 1 last (layout_here next last) heard_is (known_lawful next heard_is last)
event_lawful local (LocalEvent.Advance id) is may fit = open_lawful local (open_call local.calls id) is
event_lawful local (LocalEvent.Serve letter) is may fit =
    served_lawful (learnt_from local letter) letter letter.message.body (letter_rebuildable local letter fit is) fit.0
event_lawful local (LocalEvent.Take letter) is may fit =
    let next = learnt_from local letter in silent_lawful next (open_call next.calls letter.message.call) _
event_lawful local (LocalEvent.Settle id value) is may fit = silent_lawful local (open_call local.calls id) _
event_lawful local (LocalEvent.Answer id) is may fit = tt
event_lawful local (LocalEvent.GiveUp id) is may fit = tt
event_lawful local (LocalEvent.EndEarly id value) is may fit = tt
event_lawful local (LocalEvent.Close position) is may fit = tt
event_lawful local (LocalEvent.Raise position) is may fit = tt
event_lawful local (LocalEvent.Grow id) is may fit = tt
event_lawful local (LocalEvent.Hear letter) is may fit = tt
event_lawful local (LocalEvent.Redirect letter) is may fit = ((fit.0, fit.1, told_lawful local is), tt)
event_lawful local (LocalEvent.ReadOn id) is may fit =
    reading_lawful local (open_call local.calls id) (λ call. number_at call local.start) is
event_lawful local (LocalEvent.BeginAnew id) is may fit =
    reading_lawful local (open_call local.calls id) (λ call. anew_number call local.start) is
event_lawful local (LocalEvent.Query id) is may fit = asked_lawful local (open_call local.calls id)

-- Letters that are sent again

all_at : (P : Letter → Type 0) (letters : List Letter) → AllByRecursion P letters → (i : ℕ) (letter : Letter) →
    slice_get letters i ≡ Some letter → P letter
all_at P [] all i letter at = absurd (cc)
all_at P (first ∷ letters) all zero letter at = let same : first ≡ letter = cc in subst P same all.0
all_at P (first ∷ letters) all (suc i) letter at = all_at P letters all.1 i letter at

pub resent_lawful : (local : LocalObject) (letters : List Letter) → IsRebuildable local →
    AllByRecursion (IsResent fragment local) letters → AllByRecursion HasLawfulLayouts letters
resent_lawful local letters is resent =
    all_weaker (IsResent fragment local) HasLawfulLayouts
    (λ letter again. all_at HasLawfulLayouts (current_letters fragment local again.call again.layout)
    (requests_lawful local (asks_piece again.call.kind again.call.stage) again.layout again.call.id again.call.phase.number
    again.call.phase.kind again.call.phase.position again.layout.members 0 (pieces_here fragment again.layout again.call) is
    (subst IsLawfulIfThere again.known (known_lawful local is again.call.phase.position)))
    again.place letter again.at) letters resent
