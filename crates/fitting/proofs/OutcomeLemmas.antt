-- What else the functions of a node's object do has room, so a fit object stays fit.
use Rattle.std.proofs.Common.{◌≡◌, ℕ, suc, ◌+◌, ◌<◌, ◌^◌, ◌&&◌, Bool, true, false, cond, List, [], ◌∷◌, length, nat_lt, Option, Some, None}
use Rattle.std.proofs.Common.{is_some, ltb-true, ltb-false, refl, subst, arith, IsSome}
use Rattle.std.specs.List.{AllByRecursion}
use Rattle.std.specs.Prelude.{IfSome}
use Rattle.std.proofs.lemmas.Bool.{and_parts}
use Rattle.bank.specs.Bank.{empty_piece}
use Rattle.bank.specs.declared.kind.Kind.TheVariants as kind
use Rattle.bank.specs.declared.status.Status.TheVariants as status
use Rattle.encoder.specs.Fragment.{fragment}
use Rattle.layout.specs.Layout.{Layout}
use Rattle.local_object.specs.Doing.{can_close, close_events, give_up_events, gives_up, is_moving, move_refusal, unless_open, write_refusal}
use Rattle.local_object.specs.Events.{LocalEvent, done_here}
use Rattle.local_object.specs.Local.{LocalObject, layout_here, last_position, with_heard, bank_in, heard_place}
use Rattle.local_object.specs.Outcomes.{begun_here, is_read}
use Rattle.local_object.specs.Passed.{can_raise, is_below_final, member_of, raise_events}
use Rattle.local_object.specs.Starting.{called_at, first_number}
use Rattle.open_calls.specs.OpenCalls.{open_call}
use Rattle.record.specs.Legal.{first_stage}
use Rattle.record.specs.declared.call.CallKind.{CallKind}
use Rattle.record.specs.declared.call.CallKind.TheVariants as calls
use Rattle.tag.specs.declared.limits.TheConstants.{LONGEST_VALUE}
use Rattle.tag.specs.declared.refusal.Refusal.{Refusal}
use Rattle.tag.specs.declared.refusal.Refusal.TheVariants.{Full, MovePending, NotNow, TooLong}
use Rattle.fitting.specs.Calls.{IsShortValue}
use Rattle.fitting.specs.Events.{HaveRoom}
use Rattle.fitting.specs.Letters.{IsFitLayout, IsFitLetter}
use Rattle.fitting.specs.Objects.{IsFitObject}
use Rattle.fitting.specs.Outcomes.{ClosingStaysFit, BeginningStaysFit, EndingStaysFit, FirstLettersAreFit, HearingStaysFit}
use Rattle.fitting.proofs.RequestLemmas.{knows_fit, KnowsFit, requests_fit}
use Rattle.fitting.proofs.KnownLemmas.{start_small, heard_knows, known_fit, known_small, last_small}
use Rattle.fitting.proofs.PlaceLemmas.{heard_fit, heard_known}
use Rattle.fitting.proofs.GoingLemmas.{leave_fit}

-- Calls that begin

-- a cause of refusal behind the test whether a call is open
later_cause : (old : LocalObject) (id : ℕ) (later : Option Refusal) → unless_open old id later ≡ None → later ≡ None
later_cause old id later none = go (is_some (open_call old.calls id)) none
  where
    go : (b : Bool) → cond b (Some NotNow) later ≡ None → later ≡ None
    go true e = absurd (cc)
    go false e = e

short_value : (old : LocalObject) (id : ℕ) (value : List ℕ) → write_refusal old id value ≡ None → IsShortValue value
short_value old id value none = go (nat_lt LONGEST_VALUE (length value)) refl (later_cause old id _ none)
  where
    go : (b : Bool) → nat_lt LONGEST_VALUE (length value) ≡ b → cond b (Some TooLong) None ≡ None → IsShortValue value
    go true t e = absurd (cc)
    go false t e = ltb-false LONGEST_VALUE (length value) t

move_small : (old : LocalObject) (id : ℕ) → move_refusal old id ≡ None → suc (last_position old) < 2 ^ 32
move_small old id none = go (is_moving old) (nat_lt (last_position old + 2) (2 ^ 32)) refl (later_cause old id _ none)
  where
    go : (m b : Bool) → nat_lt (last_position old + 2) (2 ^ 32) ≡ b → cond m (Some MovePending) (cond b None (Some Full)) ≡ None →
        suc (last_position old) < 2 ^ 32
    go true b t e = absurd (cc)
    go false false t e = absurd (cc)
    go false true t e = let is = ltb-true (last_position old + 2) (2 ^ 32) t in omega (arith, is)

pub beginning_fit : BeginningStaysFit
beginning_fit old id fit small = (
  leave_fit old (LocalEvent.BeginRead id ∷ []) fit (small, tt),
  λ value none. leave_fit old (LocalEvent.BeginWrite id value ∷ []) fit ((small, short_value old id value none), tt),
  λ layout lawful none. leave_fit old (LocalEvent.BeginMove id layout ∷ []) fit ((small, lawful, move_small old id none), tt),
)

called_sent : (local : LocalObject) (id : ℕ) (call_kind : CallKind) → IsFitObject local → id < 2 ^ 64 → (o : Option Layout) →
    layout_here local local.start ≡ o → AllByRecursion IsFitLetter (called_at local id call_kind local.start o).sent
called_sent local id call_kind fit small None known = tt
called_sent local id call_kind fit small (Some layout) known =
    requests_fit local (knows_fit local fit) (is_read call_kind) layout id (first_number local.start) kind.Next local.start empty_piece
    (subst (λ (l : Option Layout). IfSome l IsFitLayout) known (known_fit local fit local.start)) small fit.start
    (known_small local fit local.start layout known) tt refl (λ m within. tt)

moved_sent : (local : LocalObject) (id : ℕ) (layout : Layout) → IsFitObject local → id < 2 ^ 64 → IsFitLayout layout →
    AllByRecursion IsFitLetter (done_here fragment local (LocalEvent.BeginMove id layout)).sent
moved_sent local id layout fit small lawful = go (layout_here next last) refl
  where
    last : ℕ
    last = last_position local

    next : LocalObject
    next = with_heard local (suc last) layout

    knows : KnowsFit next
    knows = record { layouts = heard_knows local (suc last) layout fit lawful; start = start_small local fit }

    go : (o : Option Layout) → layout_here next last ≡ o →
        AllByRecursion IsFitLetter (begun_here next id calls.Move (first_stage calls.Move last) (kind.Spread status.Pending) 1 last o).sent
    go None known = tt
    go (Some there) known =
        requests_fit next knows false there id 1 (kind.Spread status.Pending) last empty_piece
        (subst (λ (l : Option Layout). IfSome l IsFitLayout) known (knows.layouts last)) small (omega arith) (last_small local fit) tt
        (heard_known local (suc last) layout) (λ m within. tt)

pub first_fit : FirstLettersAreFit
first_fit local id fit small = (
  called_sent local id calls.Read fit small (layout_here local local.start) refl,
  λ value. called_sent local id (calls.Write value) fit small (layout_here local local.start) refl,
  λ layout lawful. moved_sent local id layout fit small lawful,
)

-- Calls that are given up

pub ending_fit : EndingStaysFit
ending_fit old id fit = leave_fit old (give_up_events old id) fit (go (gives_up old id))
  where
    go : (b : Bool) → HaveRoom old (cond b (LocalEvent.GiveUp id ∷ []) [])
    go true = (tt, tt)
    go false = tt

-- Positions of which the node hears, and banks before the start

pub hearing_fit : HearingStaysFit
hearing_fit old position layout fit small lawful = heard_fit old position layout small lawful fit

pub raise_room : (local : LocalObject) (position : ℕ) → HaveRoom local (raise_events local position)
raise_room local position = go (can_raise local position) refl
  where
    known : can_raise local position ≡ true → IsSome (layout_here local (suc position))
    known can =
        let below : Bool = is_below_final (bank_in (heard_place local.places position)) in
        let member : Bool = is_some (member_of (layout_here local position) local.node) in
        let next : Bool = is_some (layout_here local (suc position)) in
        let all = and_parts (nat_lt position local.start) (below && (member && next)) can in
        let rest = and_parts below (member && next) all.1 in
        (and_parts member next rest.1).1

    go : (b : Bool) → can_raise local position ≡ b → HaveRoom local (cond b (LocalEvent.Raise position ∷ []) [])
    go true e = (known e, tt)
    go false e = tt

pub close_room : (local : LocalObject) (position : ℕ) → HaveRoom local (close_events local position)
close_room local position = go (can_close local position)
  where
    go : (b : Bool) → HaveRoom local (cond b (LocalEvent.Close position ∷ []) [])
    go true = (tt, tt)
    go false = tt

pub closing_fit : ClosingStaysFit
closing_fit old position fit = (
  leave_fit old (raise_events old position) fit (raise_room old position),
  leave_fit old (close_events old position) fit (close_room old position),
)
