-- What a call of a fit object does as it goes on has room.
use Rattle.std.proofs.Common.{◌≡◌, inl, inr, ℕ, suc, ◌+◌, ◌<◌, ◌^◌, ◌&&◌, not, Bool, true, false, cond, List, [], ◌∷◌, ◌++◌, nat_lt, Option}
use Rattle.std.proofs.Common.{Some, None, is_some, ltb-true, refl, sym, subst, ap, ◌∙◌, arith}
use Rattle.std.specs.List.{AllByRecursion}
use Rattle.std.proofs.lemmas.Bool.{and_parts}
use Rattle.std.proofs.lemmas.Option.{same_Some}
use Rattle.bank.specs.declared.kind.Kind.{Kind}
use Rattle.call.specs.Call.{OpenCall as Machine, reached}
use Rattle.call.specs.Limits.{is_within_limits}
use Rattle.call.specs.Next.{next_of}
use Rattle.call.specs.declared.next.Next.{Next}
use Rattle.call.specs.declared.next.Next.TheVariants as next
use Rattle.encoder.specs.Fragment.{fragment}
use Rattle.letter.specs.declared.letter.Letter.{Letter}
use Rattle.local_object.specs.Coding.{is_sendable}
use Rattle.local_object.specs.Events.{LocalEvent, all_done, done_here}
use Rattle.local_object.specs.Going.{next_here, next_if, unless_unsettled}
use Rattle.local_object.specs.Leaving.{final_position, is_at}
use Rattle.local_object.specs.Local.{LocalObject, layout_here}
use Rattle.local_object.specs.Querying.{is_to_query, is_told_by_quorum, query_by, query_events, stands_for_query}
use Rattle.local_object.specs.Starting.{first_number}
use Rattle.local_object.specs.Taking.{AreSettling, begin_anew_events, begin_events, call_events, can_begin, can_begin_anew, grow_events}
use Rattle.local_object.specs.Taking.{grows_by, is_read_begin, knows_next, lead_events, machine_of, step_events}
use Rattle.local_object.proofs.NextLemmas.{again_begin, again_restart, begin_of, due_begun, restart_of}
use Rattle.open_calls.specs.OpenCalls.{NodeCall, due_phase, open_call, stage_reached}
use Rattle.open_calls.proofs.OpenCallLemmas.{found}
use Rattle.record.specs.Legal.{is_move}
use Rattle.record.specs.PhaseOrder.{due}
use Rattle.fitting.specs.Calls.{IsFitCall}
use Rattle.fitting.specs.Events.{HasRoom, HasRoomFor, HaveRoom}
use Rattle.fitting.specs.Letters.{IsFitLetter}
use Rattle.fitting.specs.Objects.{IsFitObject}
use Rattle.fitting.specs.Outcomes.{LeaveFit}
use Rattle.fitting.proofs.EventLemmas.{events_fit}
use Rattle.fitting.proofs.StageLemmas.{reached_fit}

-- Lists of events

room_append : (local : LocalObject) (xs ys : List LocalEvent) → HaveRoom local xs →
    HaveRoom (all_done fragment local xs).local ys → HaveRoom local (xs ++ ys)
room_append local [] ys first second = second
room_append local (x ∷ xs) ys first second = (first.0, room_append (done_here fragment local x).local xs ys first.1 second)

-- events with room, and then events that have room if the object is fit by then
pub then_room : (local : LocalObject) (xs ys : List LocalEvent) → IsFitObject local → HaveRoom local xs →
    (IsFitObject (all_done fragment local xs).local → HaveRoom (all_done fragment local xs).local ys) → HaveRoom local (xs ++ ys)
then_room local xs ys fit room next = room_append local xs ys room (next (events_fit local xs fit room).0)

pub leave_fit : (old : LocalObject) (events : List LocalEvent) → IsFitObject old → HaveRoom old events → LeaveFit old events
leave_fit old events fit room new sent done =
    let is = events_fit old events fit room in (
      subst IsFitObject (sym done.local) is.0,
      subst (λ (ls : List Letter). AllByRecursion IsFitLetter ls) (sym done.letters) is.1,
    )

-- Calls that go on

within_of : (call : Machine) (n : Next) → next_here call ≡ n → (n ≡ next.Wait → ⊥) → is_within_limits call ≡ true
within_of call n e waits = go (is_within_limits call) refl e
  where
    go : (w : Bool) → is_within_limits call ≡ w → cond w (unless_unsettled call (next_of call)) next.Wait ≡ n → is_within_limits call ≡ true
    go true is e = is
    go false is e = absurd (waits (sym e))

-- what a call needs in order to begin a phase that it can begin
record CanBegin (local : LocalObject) (call : NodeCall) (k : Kind) (q : ℕ) : Type 0 where
  number : suc call.phase.number < 2 ^ 32
  sendable : is_sendable k (machine_of call) ≡ true
  next : knows_next local.places k q ≡ true

can_parts : (local : LocalObject) (call : NodeCall) (k : Kind) (q : ℕ) → can_begin local.places (machine_of call) k q ≡ true →
    CanBegin local call k q
can_parts local call k q can =
    let all = and_parts (is_some (layout_here local q)) (nat_lt (call.phase.number + 1) (2 ^ 32)
    && (is_sendable k (machine_of call) && knows_next local.places k q)) can in
    let numbered = and_parts (nat_lt (call.phase.number + 1) (2 ^ 32))
    (is_sendable k (machine_of call) && knows_next local.places k q) all.1 in
    let rest = and_parts (is_sendable k (machine_of call)) (knows_next local.places k q) numbered.1 in
    let small = ltb-true (call.phase.number + 1) (2 ^ 32) numbered.0 in
    record { number = omega (arith, small); sendable = rest.0; next = rest.1 }

kind_is : (a : Option (Kind × ℕ)) (k j : Kind) (q p : ℕ) → a ≡ Some (k, q) → a ≡ Some (j, p) → (k ≡ j) × (q ≡ p)
kind_is a k j q p e f =
    let same : (k, q) ≡ (j, p) = same_Some (k, q) (j, p) (sym e ∙ f) in
    (ap (λ (x : Kind × ℕ). x.0) same, ap (λ (x : Kind × ℕ). x.1) same)

-- there is room for the phase that is due
phase_room : (local : LocalObject) (id : ℕ) (call : NodeCall) (k : Kind) (q : ℕ) → IsFitObject local →
    open_call local.calls id ≡ Some call → due (reached (machine_of call)) ≡ Some (k, q) → is_within_limits (machine_of call) ≡ true →
    can_begin local.places (machine_of call) k q ≡ true → HasRoom local (LocalEvent.Advance call.id)
phase_room local id call k q fit here is within can other at j p due_is =
    let own = found (IsFitCall local.places) local.calls id call fit.calls here in
    let there : open_call local.calls call.id ≡ Some call = ap (open_call local.calls) own.1 ∙ here in
    let same : call ≡ other = same_Some call other (sym there ∙ at) in
    let due_here : due_phase call ≡ Some (k, q) = due_begun (stage_reached call) ∙ is in
    let asked = kind_is (due_phase call) k j q p due_here (ap due_phase same ∙ due_is) in
    let parts = can_parts local call k q can in
    let stage = reached_fit call own.0.id within own.0.stage own.0.replies in
    let room : HasRoomFor local call k q =
    record { number = parts.number; stage = stage; sendable = parts.sendable; next = parts.next } in
    subst (λ (c : NodeCall). HasRoomFor local c j p) same
    (subst (λ (n : ℕ). HasRoomFor local call j n) asked.1 (subst (λ (a : Kind). HasRoomFor local call a q) asked.0 room))

begin_room : (local : LocalObject) (id : ℕ) (call : NodeCall) (k : Kind) (q : ℕ) → IsFitObject local →
    open_call local.calls id ≡ Some call → due (reached (machine_of call)) ≡ Some (k, q) → is_within_limits (machine_of call) ≡ true →
    HaveRoom local (begin_events local.places (machine_of call) k q)
begin_room local id call k q fit here is within = go (can_begin local.places (machine_of call) k q) refl
  where
    go : (b : Bool) → can_begin local.places (machine_of call) k q ≡ b →
        HaveRoom local (cond b (LocalEvent.Advance call.id ∷ []) [])
    go true e = (phase_room local id call k q fit here is within e, tt)
    go false e = tt

anew_room : (local : LocalObject) (id : ℕ) (call : NodeCall) → IsFitObject local → open_call local.calls id ≡ Some call →
    HaveRoom local (begin_anew_events local (machine_of call))
anew_room local id call fit here = go (can_begin_anew local (machine_of call)) refl
  where
    own : IsFitCall local.places call × (call.id ≡ id)
    own = found (IsFitCall local.places) local.calls id call fit.calls here

    room : can_begin_anew local (machine_of call) ≡ true → HasRoom local (LocalEvent.BeginAnew call.id)
    room can other at =
        let there : open_call local.calls call.id ≡ Some call = ap (open_call local.calls) own.1 ∙ here in
        let same : call ≡ other = same_Some call other (sym there ∙ at) in
        let all = and_parts (not (is_move call.kind)) (is_some (layout_here local local.start)
        && nat_lt (call.phase.number + first_number local.start) (2 ^ 32)) can in
        let rest = and_parts (is_some (layout_here local local.start))
        (nat_lt (call.phase.number + first_number local.start) (2 ^ 32)) all.1 in
        subst (λ (c : NodeCall). c.phase.number + first_number local.start < 2 ^ 32) same
        (ltb-true (call.phase.number + first_number local.start) (2 ^ 32) rest.1)

    go : (b : Bool) → can_begin_anew local (machine_of call) ≡ b → HaveRoom local (cond b (LocalEvent.BeginAnew call.id ∷ []) [])
    go true e = (room e, tt)
    go false e = tt

step_room : (again : Bool) (local : LocalObject) (id : ℕ) (call : NodeCall) → IsFitObject local → open_call local.calls id ≡ Some call →
    (n : Next) → next_if again (machine_of call) ≡ n → HaveRoom local (step_events local (machine_of call) n)
step_room again local id call fit here next.Wait e = tt
step_room again local id call fit here next.Settle e = tt
step_room again local id call fit here (next.Restart k q) e = go (is_read_begin (reached (machine_of call)))
  where
    is : next_here (machine_of call) ≡ next.Restart k q
    is = again_restart again (next_here (machine_of call)) k q e

    go : (b : Bool) → HaveRoom local (cond b (begin_anew_events local (machine_of call)) (begin_events local.places (machine_of call) k q))
    go true = anew_room local id call fit here
    go false = begin_room local id call k q fit here (restart_of (machine_of call) k q is).0.due
        (within_of (machine_of call) (next.Restart k q) is (λ wrong. cc))
step_room again local id call fit here (next.Begin k q) e =
    let is : next_here (machine_of call) ≡ next.Begin k q = again_begin again (next_here (machine_of call)) k q e in
    begin_room local id call k q fit here (begin_of (machine_of call) k q is).due
    (within_of (machine_of call) (next.Begin k q) is (λ wrong. cc))
step_room again local id call fit here next.Answer e = (tt, tt)

pub lead_room : (again : Bool) (local : LocalObject) (id : ℕ) → IsFitObject local → HaveRoom local (lead_events again local id)
lead_room again local id fit = go (open_call local.calls id) refl
  where
    go : (o : Option NodeCall) → open_call local.calls id ≡ o → HaveRoom local (call_events again local o)
    go None e = tt
    go (Some call) e = step_room again local id call fit e (next_if again (machine_of call)) refl

pub grow_room : (local : LocalObject) (id : ℕ) → HaveRoom local (grow_events local id)
grow_room local id = go (open_call local.calls id)
  where
    last_part : (a b c d : Bool) → (a && (b && (c && d))) ≡ true → d ≡ true
    last_part true true true d e = e
    last_part true true false d e = absurd (cc)
    last_part true false c d e = absurd (cc)
    last_part false b c d e = absurd (cc)

    room : (b : Bool) → (b ≡ true → suc local.start < 2 ^ 31) → HaveRoom local (cond b (LocalEvent.Grow id ∷ []) [])
    room true small = (small refl, tt)
    room false small = tt

    small : (call : NodeCall) → grows_by local (Some call) ≡ true → suc local.start < 2 ^ 31
    small call grows =
        let is : local.start + 1 < 2 ^ 31 =
        ltb-true (local.start + 1) (2 ^ 31)
        (last_part (is_at (final_position (Some call)) local.start) (is_some call.phase.end)
        (is_some (layout_here local (suc local.start))) (nat_lt (local.start + 1) (2 ^ 31)) grows) in
        omega (arith, is)

    go : (o : Option NodeCall) → HaveRoom local (cond (grows_by local o) (LocalEvent.Grow id ∷ []) [])
    go None = tt
    go (Some call) = room (grows_by local (Some call)) (small call)

pub settle_room : (local : LocalObject) (id : ℕ) (events : List LocalEvent) → AreSettling local id events → HaveRoom local events
settle_room local id events (inl none) = subst (HaveRoom local) (sym none.0) tt
settle_room local id events (inr some) = subst (HaveRoom local) (sym some.2) (some.1.fetched.decoded.lawful.longest, tt)

-- The first reading of a call stands for its query only if there is a number for the query's phase

standing_small : (local : LocalObject) (call : NodeCall) → stands_for_query local call ≡ true → suc call.phase.number < 2 ^ 32
standing_small local call stands =
    let told = is_told_by_quorum (layout_here local call.phase.position) call.id call.phase.number local.reports in
    let rest = and_parts (is_to_query (machine_of call)) (nat_lt (call.phase.number + 1) (2 ^ 32) && told) stands in
    let small = ltb-true (call.phase.number + 1) (2 ^ 32) (and_parts (nat_lt (call.phase.number + 1) (2 ^ 32)) told rest.1).0 in
    omega (arith, small)

pub query_room : (local : LocalObject) (id : ℕ) → IsFitObject local → HaveRoom local (query_events local id)
query_room local id fit = go (open_call local.calls id) refl
  where
    room : (call : NodeCall) → open_call local.calls id ≡ Some call → stands_for_query local call ≡ true →
        HasRoom local (LocalEvent.Query call.id)
    room call here stands other at =
        let own = found (IsFitCall local.places) local.calls id call fit.calls here in
        let there : open_call local.calls call.id ≡ Some call = ap (open_call local.calls) own.1 ∙ here in
        subst (λ (c : NodeCall). suc c.phase.number < 2 ^ 32) (same_Some call other (sym there ∙ at)) (standing_small local call stands)

    test : (call : NodeCall) → open_call local.calls id ≡ Some call → (b : Bool) → stands_for_query local call ≡ b →
        HaveRoom local (cond b (LocalEvent.Query call.id ∷ []) [])
    test call here true stands = (room call here stands, tt)
    test call here false stands = tt

    go : (o : Option NodeCall) → open_call local.calls id ≡ o → HaveRoom local (query_by local o)
    go None e = tt
    go (Some call) e = test call e (stands_for_query local call) refl
