-- Waiting events beside events that change one call alone and send messages: the worlds stay the same but for that call.
use Rattle.std.proofs.Common.{◌≡◌, ℕ, suc, ◌+◌, Bool, true, false, cond, eqb, List, [], ◌∷◌, ◌++◌, length, None, Some}
use Rattle.std.proofs.Common.{refl, sym, ap, ◌∙◌, subst, eqb-true, arith}
use Rattle.mail.specs.declared.message.Message.{Message}
use Rattle.record.specs.Fragments.{Code}
use Rattle.open_calls.specs.OpenCalls.{NodeCall, open_call, with_open}
use Rattle.open_calls.proofs.CallsOfNodeLemmas.{differs, nothing_without}
use Rattle.open_calls.proofs.ListLemmas.{all_weaker}
use Rattle.network.specs.Worlds.{World}
use Rattle.network.specs.Events.{Event, happens, world_after}
use Rattle.starts.proofs.FinalPointerLemmas.{get_more, ticked}
use Rattle.told_queries.specs.Courses.{AreWaits, IsWait}
use Rattle.told_queries.proofs.ReplayLemmas.{IsSameBut, IsStillServed, Replays}

-- Waiting events

-- a waiting event changes nothing but the number of events
pub waited : (fragment : Code) (world : World) (event : Event) → IsWait world event → happens fragment world event ≡ ticked world
waited fragment world event is =
    ap (happens fragment world) is.1
    ∙ ap (λ calls. let w : World = record world { calls = calls; now = suc world.now } in w) (nothing_without world.calls is.0 is.2)

still_waits : (world : World) (events : List Event) → AreWaits world events → AreWaits (ticked world) events
still_waits world events are =
    all_weaker (IsWait world) (IsWait (ticked world)) (λ event is. (is.0, is.1, is.2)) events are

no_more : (n : ℕ) → n ≡ n + 0
no_more n = omega arith

more_after : (n m : ℕ) → suc n + m ≡ n + suc m
more_after n m = omega arith

-- nor do several
pub waited_all : (fragment : Code) (world : World) (waits : List Event) → AreWaits world waits →
    world_after fragment waits world ≡ record world { now = world.now + length waits }
waited_all fragment world [] are = ap (λ n. let w : World = record world { now = n } in w) (no_more world.now)
waited_all fragment world (wait ∷ waits) are =
    ap (world_after fragment waits) (waited fragment world wait are.0)
    ∙ waited_all fragment (ticked world) waits (still_waits world waits are.1)
    ∙ ap (λ n. let w : World = record world { now = n } in w) (more_after world.now (length waits))

serves_nothing : (world : World) (event other : Event) → IsWait world event → IsStillServed event other
serves_nothing world event other is request serves =
    absurd (let clash : Event.GiveUp is.0 ≡ Event.Serve request = sym is.1 ∙ serves in cc)

-- Worlds that are the same but for a call

-- another call than the one that is changed
other_with : (new : NodeCall) (other : ℕ) → (other ≡ new.id → ⊥) → (calls : List NodeCall) →
    open_call (with_open new calls) other ≡ open_call calls other
other_with new other apart [] = refl
other_with new other apart (first ∷ calls) = go (eqb first.id new.id) refl (other_with new other apart calls)
  where
    go : (b : Bool) → eqb first.id new.id ≡ b → open_call (with_open new calls) other ≡ open_call calls other →
        open_call (cond b new first ∷ with_open new calls) other ≡ open_call (first ∷ calls) other
    go true is rest =
        ap (λ b. cond b (Some new) (open_call (with_open new calls) other)) (differs new.id other (λ same. apart (sym same)))
        ∙ rest
        ∙ sym (ap (λ b. cond b (Some first) (open_call calls other))
        (differs first.id other (λ same. apart (sym same ∙ eqb-true first.id new.id is))))
    go false is rest = ap (λ o. cond (eqb first.id other) (Some first) o) rest

-- a call that is not there is not there where one is changed
none_with : (new : NodeCall) (other : ℕ) (calls : List NodeCall) → open_call calls other ≡ None →
    open_call (with_open new calls) other ≡ None
none_with new other [] none = refl
none_with new other (first ∷ calls) none =
    go (eqb first.id other) refl (eqb first.id new.id) refl none (λ rest. none_with new other calls rest)
  where
    go : (a : Bool) → eqb first.id other ≡ a → (b : Bool) → eqb first.id new.id ≡ b →
        cond a (Some first) (open_call calls other) ≡ None →
        (open_call calls other ≡ None → open_call (with_open new calls) other ≡ None) →
        open_call (cond b new first ∷ with_open new calls) other ≡ None
    go true s b t is rest = absurd (cc)
    go false s true t is rest =
        ap (λ c. cond c (Some new) (open_call (with_open new calls) other))
        (ap (λ k. eqb k other) (sym (eqb-true first.id new.id t)) ∙ s)
        ∙ rest is
    go false s false t is rest = ap (λ c. cond c (Some first) (open_call (with_open new calls) other)) s ∙ rest is

-- one event more in both, and more messages in the second
pub same_sent : (id : ℕ) (world new : World) (more : List Message) → IsSameBut id world new →
    IsSameBut id (ticked world) (record new { sent = new.sent ++ more; now = suc new.now })
same_sent id world new more same = record {
  files = same.files;
  later = same.later;
  banks = same.banks;
  history = same.history;
  now = ap suc same.now;
  others = same.others;
  closed = same.closed;
  sent = λ message was. let there = same.sent message was in (there.0, get_more new.sent more there.0 message there.1);
}

-- the second changes the call
pub same_changed : (id : ℕ) (world new : World) (call : NodeCall) → call.id ≡ id → IsSameBut id world new →
    IsSameBut id world (record new { calls = with_open call new.calls })
same_changed id world new call own same = record {
  files = same.files;
  later = same.later;
  banks = same.banks;
  history = same.history;
  now = same.now;
  others = λ other apart. other_with call other (λ is. apart (is ∙ own)) new.calls ∙ same.others other apart;
  closed = λ other none. none_with call other new.calls (same.closed other none);
  sent = same.sent;
}

-- one event more in both
pub same_ticked : (id : ℕ) (world new : World) → IsSameBut id world new → IsSameBut id (ticked world) (ticked new)
same_ticked id world new same = record {
  files = same.files;
  later = same.later;
  banks = same.banks;
  history = same.history;
  now = ap suc same.now;
  others = same.others;
  closed = same.closed;
  sent = same.sent;
}

-- Runs

-- beside as many waiting events, these events are a run that is the same but for the call
abbrev pub ReplaysWaits : Code → (id : ℕ) → List Event → World → Type 0
ReplaysWaits fragment id events new = (world : World) (waits : List Event) → IsSameBut id world new → AreWaits world waits →
    length waits ≡ length events → Replays fragment id waits world events new

pub replays_none : (fragment : Code) (id : ℕ) (new : World) → ReplaysWaits fragment id [] new
replays_none fragment id new world [] same are few = same
replays_none fragment id new world (wait ∷ waits) same are few = absurd (omega (arith, few))

pub replays_first : (fragment : Code) (id : ℕ) (event : Event) (events : List Event) (new next : World) →
    happens fragment new event ≡ next → ((world : World) → IsSameBut id world new → IsSameBut id (ticked world) next) →
    ReplaysWaits fragment id events next → ReplaysWaits fragment id (event ∷ events) new
replays_first fragment id event events new next is keeps rest world [] same are few = absurd (omega (arith, few))
replays_first fragment id event events new next is keeps rest world (wait ∷ waits) same are few = (
  same,
  serves_nothing world wait event are.0,
  subst (λ w. Replays fragment id waits w events (happens fragment new event)) (sym (waited fragment world wait are.0))
      (subst (λ n. Replays fragment id waits (ticked world) events n) (sym is)
      (rest (ticked world) waits (keeps world same) (still_waits world waits are.1) (omega (arith, few)))),
)
