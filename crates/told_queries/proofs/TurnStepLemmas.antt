-- A turn of a run, and the turn beside it of the other run, step by step.
use Rattle.std.proofs.Common.{◌≡◌, ◌<◌, List, [], ◌∷◌, ◌++◌, length, map}
use Rattle.std.proofs.Common.{subst, arith}
use Rattle.layout.specs.Layout.{Layout}
use Rattle.bank.specs.Serve.{reply_to}
use Rattle.bank.specs.declared.request.Request.TheVariants as request
use Rattle.mail.specs.Message.{answered}
use Rattle.mail.specs.declared.message.Message.{Message}
use Rattle.record.specs.Fragments.{Code}
use Rattle.open_calls.specs.OpenCalls.{NodeCall}
use Rattle.network.specs.Worlds.{World, member_bank}
use Rattle.network.specs.Events.{Event, MayHappen, happens, world_after}
use Rattle.network.specs.Laws.{IsReached}
use Rattle.network.specs.Premises.{IsPremised, MayHappenInTurn, WasSent}
use Rattle.told_queries.specs.Courses.{AreWaits, IsWait}
use Rattle.told_queries.proofs.BesideLemmas.{IsSoFar}
use Rattle.told_queries.proofs.RunLemmas.{may_first, may_second, reached_later, run_append}
use Rattle.told_queries.proofs.SentMessageLemmas.{run_sent}
use Rattle.told_queries.proofs.TurnLemmas.{AreSteps, Beside, IsStep, more_steps, no_steps, query_of}
use Rattle.told_queries.proofs.TurnLemmas.{with_first}

-- the reply to a query of this member, by its bank in this world
abbrev pub query_reply : World → Message → Message
query_reply world message =
    answered (query_of message) (reply_to (member_bank world message.position message.member) request.Query 0)

-- what single events do: while the call stays in its phase, each event has one beside it; a query may be served in the
-- place of a waiting event
pub record HasSteps (fragment : Code) (begun : NodeCall) (layout : Layout) (next_of : Event → Event) : Type 0 where
  pub serves : (message : Message) → next_of (Event.Serve message) ≡ Event.Serve message
  pub step : (world other : World) (event : Event) → IsReached fragment world → Beside fragment begun layout world other →
      IsSoFar begun world → IsSoFar begun (happens fragment world event) → MayHappen fragment world event →
      IsPremised world event → IsStep fragment begun layout world other event (next_of event)
  pub stays : (first second : List Event) (world : World) → IsReached fragment world →
      MayHappenInTurn fragment (first ++ second) world → IsSoFar begun world →
      IsSoFar begun (world_after fragment (first ++ second) world) → IsSoFar begun (world_after fragment first world)
  pub query : (world other : World) (wait : Event) (message : Message) → Beside fragment begun layout world other →
      IsWait world wait → WasSent other (query_of message) →
      IsStep fragment begun layout world other wait (Event.Serve (query_of message))
  pub reply : (world other : World) (message : Message) → Beside fragment begun layout world other →
      WasSent (happens fragment other (Event.Serve (query_of message))) (query_reply world message)

module _ (fragment : Code) (begun : NodeCall) (layout : Layout) (next_of : Event → Event)
    (steps : HasSteps fragment begun layout next_of) where
  abbrev Steps : World → World → List Event → List Event → Type 0
  Steps world other events others = AreSteps fragment begun layout world other events others

  -- while the call stays in its phase
  pub record IsKept (world : World) (events : List Event) : Type 0 where
    pub reached : IsReached fragment world
    pub may : MayHappenInTurn fragment events world
    pub from : IsSoFar begun world
    pub until : IsSoFar begun (world_after fragment events world)

  pub kept_first : (first second : List Event) (world : World) → IsKept world (first ++ second) → IsKept world first
  kept_first first second world kept = record {
    reached = kept.reached;
    may = may_first fragment first second world kept.may;
    from = kept.from;
    until = steps.stays first second world kept.reached kept.may kept.from kept.until;
  }

  pub kept_second : (first second : List Event) (world : World) → IsKept world (first ++ second) →
      IsKept (world_after fragment first world) second
  kept_second first second world kept = record {
    reached = reached_later fragment world first kept.reached (may_first fragment first second world kept.may);
    may = may_second fragment first second world kept.may;
    from = steps.stays first second world kept.reached kept.may kept.from kept.until;
    until = subst (IsSoFar begun) (run_append fragment first second world) kept.until;
  }

  pub events_beside : (events : List Event) (world other : World) → Beside fragment begun layout world other → IsKept world events →
      Steps world other events (map next_of events)
  events_beside [] world other beside kept = no_steps fragment begun layout world other beside
  events_beside (event ∷ events) world other beside kept =
      let later = kept_second (event ∷ []) events world kept in
      let one = steps.step world other event kept.reached beside kept.from later.from kept.may.0 kept.may.1 in
      more_steps fragment begun layout world other event (next_of event) events (map next_of events) beside one
      (events_beside events (happens fragment world event) (happens fragment other (next_of event)) one.beside later)

  -- the query comes first, and its reply was sent in the end
  pub record AsksFirst (world other : World) (spare : List Event) (message : Message) : Type 0 where
    pub does : Steps world other spare (with_first (Event.Serve (query_of message)) (map next_of spare))
    pub replied : WasSent
        (world_after fragment (with_first (Event.Serve (query_of message)) (map next_of spare)) other)
        (query_reply world message)

  pub asks_first : (spare : List Event) (world other : World) (message : Message) → 0 < length spare → AreWaits world spare →
      Beside fragment begun layout world other → IsKept world spare → WasSent other (query_of message) →
      AsksFirst world other spare message
  asks_first [] world other message some waits beside kept sent = absurd (omega (arith, some))
  asks_first (wait ∷ spare) world other message some waits beside kept sent =
      let query = Event.Serve (query_of message) in
      let one = steps.query world other wait message beside waits.0 sent in
      let later = kept_second (wait ∷ []) spare world kept in
      let rest = events_beside spare (happens fragment world wait) (happens fragment other query) one.beside later in record {
        does = more_steps fragment begun layout world other wait query spare (map next_of spare) beside one rest;
        replied = run_sent fragment (map next_of spare) (happens fragment other query) (query_reply world message)
            (steps.reply world other message beside);
      }
