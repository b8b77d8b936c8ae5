-- Two runs side by side: their worlds are the same but for one call and for more messages, and what members serve in the
-- first, they serve in the second too.
use Rattle.std.proofs.Common.{◌≡◌, ℕ, List, [], ◌∷◌, ◌++◌, None, refl, subst, ap}
use Rattle.mail.specs.declared.message.Message.{Message}
use Rattle.record.specs.Fragments.{Code}
use Rattle.open_calls.specs.OpenCalls.{open_call}
use Rattle.network.specs.Worlds.{World}
use Rattle.network.specs.Events.{Event, happens, world_after}
use Rattle.network.specs.Premises.{WasSent}

-- Definitions

-- the second world is the first but for the call with this id, which is open in both or in none, and for more messages
pub record IsSameBut (id : ℕ) (world new : World) : Type 0 where
  pub files : new.files ≡ world.files
  pub later : new.later ≡ world.later
  pub banks : new.banks ≡ world.banks
  pub history : new.history ≡ world.history
  pub now : new.now ≡ world.now
  pub others : (other : ℕ) → (other ≡ id → ⊥) → open_call new.calls other ≡ open_call world.calls other
  pub closed : (other : ℕ) → open_call world.calls other ≡ None → open_call new.calls other ≡ None
  pub sent : (message : Message) → WasSent world message → WasSent new message

-- where a member serves a request in the first run, it serves it in the second
abbrev pub IsStillServed : (event other : Event) → Type 0
IsStillServed event other = (request : Message) → event ≡ Event.Serve request → other ≡ Event.Serve request

-- the second run has as many events as the first; their worlds are the same but for the call, before each event and
-- after the last; and each request that is served in the first is served at the same place in the second
abbrev pub Replays : Code → (id : ℕ) → List Event → World → List Event → World → Type 0
Replays fragment id [] world [] new = IsSameBut id world new
Replays fragment id (event ∷ events) world (other ∷ others) new =
    IsSameBut id world new × IsStillServed event other
    × Replays fragment id events (happens fragment world event) others (happens fragment new other)
Replays fragment id [] world (other ∷ others) new = ⊥
Replays fragment id (event ∷ events) world [] new = ⊥

-- Worlds

pub same_world : (id : ℕ) (world : World) → IsSameBut id world world
same_world id world = record {
  files = refl;
  later = refl;
  banks = refl;
  history = refl;
  now = refl;
  others = λ other apart. refl;
  closed = λ other none. none;
  sent = λ message was. was;
}

-- Runs

pub replays_same : (fragment : Code) (id : ℕ) (events : List Event) (world : World) → Replays fragment id events world events world
replays_same fragment id [] world = same_world id world
replays_same fragment id (event ∷ events) world =
    (same_world id world, λ request is. is, replays_same fragment id events (happens fragment world event))

pub replays_append : (fragment : Code) (id : ℕ) (first second : List Event) (world : World) (others more : List Event) (new : World) →
    Replays fragment id first world others new →
    Replays fragment id second (world_after fragment first world) more (world_after fragment others new) →
    Replays fragment id (first ++ second) world (others ++ more) new
replays_append fragment id [] second world [] more new before after = after
replays_append fragment id [] second world (other ∷ others) more new before after = absurd before
replays_append fragment id (event ∷ first) second world [] more new before after = absurd before
replays_append fragment id (event ∷ first) second world (other ∷ others) more new before after = (
  before.0,
  before.1,
  replays_append fragment id first second (happens fragment world event) others more (happens fragment new other) before.2 after,
)

pub replays_start : (fragment : Code) (id : ℕ) (events : List Event) (world : World) (others : List Event) (new : World) →
    Replays fragment id events world others new → IsSameBut id world new
replays_start fragment id [] world [] new replays = replays
replays_start fragment id [] world (other ∷ others) new replays = absurd replays
replays_start fragment id (event ∷ events) world [] new replays = absurd replays
replays_start fragment id (event ∷ events) world (other ∷ others) new replays = replays.0

pub replays_end : (fragment : Code) (id : ℕ) (events : List Event) (world : World) (others : List Event) (new : World) →
    Replays fragment id events world others new → IsSameBut id (world_after fragment events world) (world_after fragment others new)
replays_end fragment id [] world [] new replays = replays
replays_end fragment id [] world (other ∷ others) new replays = absurd replays
replays_end fragment id (event ∷ events) world [] new replays = absurd replays
replays_end fragment id (event ∷ events) world (other ∷ others) new replays =
    replays_end fragment id events (happens fragment world event) others (happens fragment new other) replays.2

-- the second run up to where the first one has this beginning
pub record HasBeginning (fragment : Code) (id : ℕ) (before : List Event) (world : World) (others : List Event) (new : World)
    : Type 0 where
  pub start : List Event
  pub rest : List Event
  pub split : others ≡ start ++ rest
  pub replays : Replays fragment id before world start new

pub replays_until : (fragment : Code) (id : ℕ) (before after : List Event) (world : World) (others : List Event) (new : World) →
    Replays fragment id (before ++ after) world others new → HasBeginning fragment id before world others new
replays_until fragment id [] after world others new replays = record {
  start = [];
  rest = others;
  split = refl;
  replays = replays_start fragment id after world others new replays;
}
replays_until fragment id (event ∷ before) after world [] new replays = absurd replays
replays_until fragment id (event ∷ before) after world (other ∷ others) new replays =
    let it = replays_until fragment id before after (happens fragment world event) others (happens fragment new other) replays.2 in
    record {
      start = other ∷ it.start;
      rest = it.rest;
      split = ap (λ l. other ∷ l) it.split;
      replays = (replays.0, replays.1, it.replays);
    }

-- the second run up to a request that is served, which is served there too
pub record HasServe (fragment : Code) (id : ℕ) (before : List Event) (request : Message) (world : World) (others : List Event)
    (new : World) : Type 0 where
  pub start : List Event
  pub rest : List Event
  pub split : others ≡ start ++ Event.Serve request ∷ rest
  pub replays : Replays fragment id before world start new
  pub next : IsSameBut id (happens fragment (world_after fragment before world) (Event.Serve request))
      (happens fragment (world_after fragment start new) (Event.Serve request))

pub replays_serve : (fragment : Code) (id : ℕ) (before : List Event) (request : Message) (after : List Event) (world : World)
    (others : List Event) (new : World) → Replays fragment id (before ++ Event.Serve request ∷ after) world others new →
    HasServe fragment id before request world others new
replays_serve fragment id [] request after world [] new replays = absurd replays
replays_serve fragment id [] request after world (other ∷ others) new replays = record {
  start = [];
  rest = others;
  split = ap (λ e. e ∷ others) (replays.1 request refl);
  replays = replays.0;
  next = subst (λ e. IsSameBut id (happens fragment world (Event.Serve request)) (happens fragment new e)) (replays.1 request refl)
      (replays_start fragment id after (happens fragment world (Event.Serve request)) others (happens fragment new other) replays.2);
}
replays_serve fragment id (event ∷ before) request after world [] new replays = absurd replays
replays_serve fragment id (event ∷ before) request after world (other ∷ others) new replays =
    let it = replays_serve fragment id before request after (happens fragment world event) others (happens fragment new other) replays.2 in
    record {
      start = other ∷ it.start;
      rest = it.rest;
      split = ap (λ l. other ∷ l) it.split;
      replays = (replays.0, replays.1, it.replays);
      next = it.next;
    }
