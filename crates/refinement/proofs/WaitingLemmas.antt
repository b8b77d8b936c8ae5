-- A world can wait: an event that gives up a call that nobody carries out changes nothing but the number of events.
use Rattle.std.proofs.Common.{◌≡◌, ◌+◌, ◌-◌, ◌<◌, ◌≤◌, ℕ, zero, suc, cond, List, [], ◌∷◌, length, Some, None}
use Rattle.std.proofs.Common.{refl, sym, subst, ap, ◌∙◌, arith}
use Rattle.std.specs.List.{AllByRecursion}
use Rattle.record.specs.declared.call.CallKind.TheVariants.{Move}
use Rattle.record.specs.declared.call.Entry.{Entry}
use Rattle.record.specs.Fragments.{Code}
use Rattle.soundness.proofs.ListLemmas.{all_weaker}
use Rattle.open_calls.specs.OpenCalls.{NodeCall, open_call}
use Rattle.open_calls.proofs.CallsOfNodeLemmas.{differs, nothing_without}
use Rattle.network.specs.Worlds.{World}
use Rattle.network.specs.Events.{Event, world_after}
use Rattle.local_object.specs.Outcomes.{Outcome}
use Rattle.told_queries.specs.Courses.{AreWaits, IsWait}
use Rattle.refinement.specs.Parts.{IsPartOf, WasSentAs}
use Rattle.refinement.specs.Refined.{IsRefined}
use Rattle.refinement.specs.Starting.{HasEvents}
use Rattle.refinement.specs.WellFormed.{IsWellFormed}
use Rattle.refinement.proofs.BegunCallLemmas.{ticked}
use Rattle.refinement.proofs.PartLemmas.{changed_world, kept_after, refined}
use Rattle.refinement.proofs.RefinedEventLemmas.{both_refined, then_refined}

-- an id that is greater than those of all calls
over_all : (calls : List NodeCall) → (id : ℕ) × AllByRecursion (λ call. call.id < id) calls
over_all [] = (0, tt)
over_all (call ∷ calls) =
    let rest = over_all calls in
    let id = rest.0 + suc call.id in
    let below = all_weaker (λ (c : NodeCall). c.id < rest.0) (λ (c : NodeCall). c.id < id) (λ c less. omega (arith, less)) calls rest.1 in
    (id, (omega arith, below))

apart : (a b : ℕ) → a < b → a ≡ b → ⊥
apart a b less same = absurd (omega arith)

-- the world, so many events later
abbrev pub later_world : World → (now : ℕ) → World
later_world world now = record world { now = now }

none_open : (calls : List NodeCall) (id : ℕ) → AllByRecursion (λ call. call.id < id) calls → open_call calls id ≡ None
none_open [] id all = refl
none_open (call ∷ calls) id all =
    ap (λ b. cond b (Some call) (open_call calls id)) (differs call.id id (apart call.id id all.0)) ∙ none_open calls id all.1

-- an event after which the world is as it was, one event later
pub record Waits (fragment : Code) (world : World) (after : Outcome) : Type 0 where
  pub event : Event
  pub is_wait : IsWait world event
  pub refined : IsRefined fragment world (event ∷ []) after
  pub later : world_after fragment (event ∷ []) world ≡ ticked world

pub waits : (fragment : Code) (world : World) (after : Outcome) → IsWellFormed fragment world → IsPartOf world after.local →
    AllByRecursion (WasSentAs world) after.sent → Waits fragment world after
waits fragment world after formed part sent =
    let free = over_all world.calls in
    let events = Event.GiveUp free.0 ∷ [] in
    let one : world.now + 1 ≡ suc world.now = omega arith in
    let later : ticked world ≡ world_after fragment events world =
    ap (λ calls. changed_world world calls world.sent world.history (suc world.now))
    (sym (nothing_without world.calls free.0 (none_open world.calls free.0 free.1))) in
    let done = refined fragment world events (changed_world world world.calls world.sent world.history (world.now + 1)) after after
    world.history (ap (changed_world world world.calls world.sent world.history) one ∙ later) refl (
      all_weaker (λ (c : NodeCall). c.id < free.0) (λ (c : NodeCall). c.id ≡ free.0 → c.kind ≡ Move → ⊥)
          (λ c less same move. apart c.id free.0 less same) world.calls free.1,
      record { network = tt; log = tt; ids = tt },
      tt,
    )
    (kept_after fragment world world after 0 1 world.history (record {
      formed = formed;
      part = part;
      sent = sent;
      others = λ other differ is. is;
      kept = λ letter was. was;
      files = refl;
      now = omega arith;
      entries = refl;
    })) in
    record {
      event = Event.GiveUp free.0;
      is_wait = (free.0, refl, none_open world.calls free.0 free.1);
      refined = done.0;
      later = sym later;
    }

-- so many such events, after which the world is as it was, so many events later
pub record WaitsLong (fragment : Code) (world : World) (after : Outcome) (count : ℕ) : Type 0 where
  pub events : List Event
  pub number : length events ≡ count
  pub are_waits : AreWaits world events
  pub refined : IsRefined fragment world events after
  pub later : world_after fragment events world ≡ later_world world (world.now + count)

pub waits_long : (fragment : Code) (count : ℕ) (world : World) (after : Outcome) → IsWellFormed fragment world →
    IsPartOf world after.local → AllByRecursion (WasSentAs world) after.sent → WaitsLong fragment world after count
waits_long fragment zero world after formed part sent =
    let same : world.now ≡ world.now + 0 = omega arith in record {
      events = [];
      number = refl;
      are_waits = tt;
      refined = record {
        may = tt;
        formed = formed;
        part = part;
        sent = sent;
        others = λ other differ is. is;
        kept = λ letter was. was;
        files = refl;
        now = same;
      };
      later = ap (later_world world) same;
    }
waits_long fragment (suc count) world after formed part sent =
    let one = waits fragment world after formed part sent in
    let next = world_after fragment (one.event ∷ []) world in
    let rest = waits_long fragment count next after one.refined.formed one.refined.part one.refined.sent in
    let sum : suc world.now + count ≡ world.now + suc count = omega arith in record {
      events = one.event ∷ rest.events;
      number = ap suc rest.number;
      are_waits = (one.is_wait, subst (λ w. AreWaits w rest.events) one.later rest.are_waits);
      refined = both_refined fragment world (one.event ∷ []) rest.events after after refl one.refined rest.refined;
      later = rest.later ∙ ap (λ (w : World). later_world w (w.now + count)) one.later ∙ ap (later_world world) sum;
    }

-- with this many more events that change nothing
padded : (fragment : Code) (world : World) (after : Outcome) (history : List Entry) (more count : ℕ) →
    HasEvents fragment world after history count → HasEvents fragment world after history (count + more)
padded fragment world after history zero count has =
    let same : count ≡ count + zero = omega arith in subst (HasEvents fragment world after history) same has
padded fragment world after history (suc more) count has =
    let later = world_after fragment has.events world in
    let one = waits fragment later after has.refined.formed has.refined.part has.refined.sent in
    let still : HasEvents fragment later after later.history 1 =
    record { events = one.event ∷ []; number = refl; refined = one.refined; entries = ap (λ (w : World). w.history) one.later } in
    let same : (length has.events + 1) + more ≡ count + suc more = let e = has.number in omega arith in
    subst (HasEvents fragment world after history) same
    (padded fragment world after history more (length has.events + 1)
    (then_refined fragment world has.events after after history 1 refl has.refined
    (subst (λ h. HasEvents fragment later after h 1) has.entries still)))

-- events, and then as many that change nothing as are left
pub filled : (fragment : Code) (world : World) (after : Outcome) (history : List Entry) (events : List Event) (count : ℕ) →
    IsRefined fragment world events after → (world_after fragment events world).history ≡ history → length events ≤ count →
    HasEvents fragment world after history count
filled fragment world after history events count is entries few =
    let same : length events + (count - length events) ≡ count = omega (arith, few) in
    subst (HasEvents fragment world after history) same
    (padded fragment world after history (count - length events) (length events)
    (record { events = events; number = refl; refined = is; entries = entries }))
