-- Turns of a run beside those of another run, in which a call that reads first has queried already: where a member served
-- a request of the reading, it serves one of the query next.
use Rattle.std.proofs.Common.{suc, ◌&&◌, Bool, cond, eqb, List, [], ◌∷◌, ◌++◌, map}
use Rattle.std.proofs.Common.{Option, None, Some, sym, subst₂}
use Rattle.layout.specs.Layout.{Layout}
use Rattle.bank.specs.declared.request.Request.TheVariants as request
use Rattle.mail.specs.declared.message.Body.TheVariants as body
use Rattle.mail.specs.declared.message.Message.{Message}
use Rattle.record.specs.Fragments.{Code}
use Rattle.open_calls.specs.OpenCalls.{NodeCall}
use Rattle.network.specs.Worlds.{World}
use Rattle.network.specs.Events.{Event, MayHappen, happens, world_after}
use Rattle.network.specs.Premises.{IsPremised, MayHappenInTurn}
use Rattle.told_queries.specs.Courses.{Turn}
use Rattle.told_queries.proofs.BesideLemmas.{IsBeside, querying}
use Rattle.told_queries.proofs.ReplayLemmas.{IsStillServed, Replays, replays_append}
use Rattle.told_queries.proofs.RunLemmas.{may_append, run_append, same_but}

-- The turns of the other run

-- the request that these events serve, if they serve one and do nothing else
abbrev pub served_request : List Event → Option Message
served_request (Event.Serve message ∷ []) = Some message
served_request _ = None

-- the query to the same member, in the next phase
abbrev pub query_of : Message → Message
query_of message = record message { phase = suc message.phase; body = body.Request request.Query }

-- whether a turn is about the call, and the request is one of the call's phase
abbrev pub is_own : NodeCall → Turn → Message → Bool
is_own begun turn message =
    eqb turn.call begun.id && (eqb message.call begun.id && eqb message.phase begun.phase.number)

-- the events with this one in the place of the first
abbrev pub with_first : Event → List Event → List Event
with_first event [] = []
with_first event (first ∷ rest) = event ∷ rest

-- the events that a turn has in reserve in the other run: if it served a request of the reading, the query comes first
abbrev pub spare_beside : (begun : NodeCall) → Turn → Option Message → List Event
spare_beside begun turn None = turn.spare
spare_beside begun turn (Some message) =
    cond (is_own begun turn message) (with_first (Event.Serve (query_of message)) turn.spare) turn.spare

-- the turn of the other run
abbrev pub turn_beside : (next_of : Event → Event) (begun : NodeCall) → Turn → Turn
turn_beside next_of begun turn = record {
  call = turn.call;
  acts = map next_of turn.acts;
  spare = spare_beside begun (record turn { spare = map next_of turn.spare }) (served_request turn.acts);
}

-- One event

-- an event of the run and one of the other run lead to worlds that are beside each other again
pub record IsStep (fragment : Code) (begun : NodeCall) (layout : Layout) (world other : World) (event next : Event)
    : Type 0 where
  pub may : MayHappen fragment other next
  pub premised : IsPremised other next
  pub beside : IsBeside (querying begun layout) (happens fragment world event) (happens fragment other next)
  pub served : IsStillServed event next

-- so do several
pub record AreSteps (fragment : Code) (begun : NodeCall) (layout : Layout) (world other : World) (events others : List Event)
    : Type 0 where
  pub may : MayHappenInTurn fragment others other
  pub beside : IsBeside (querying begun layout) (world_after fragment events world) (world_after fragment others other)
  pub replays : Replays fragment begun.id events world others other

module _ (fragment : Code) (begun : NodeCall) (layout : Layout) where
  abbrev pub Beside : World → World → Type 0
  Beside world other = IsBeside (querying begun layout) world other

  abbrev Steps : World → World → List Event → List Event → Type 0
  Steps world other events others = AreSteps fragment begun layout world other events others

  pub no_steps : (world other : World) → Beside world other → Steps world other [] []
  no_steps world other beside =
      record { may = tt; beside = beside; replays = same_but (querying begun layout) world other beside }

  pub more_steps : (world other : World) (event next : Event) (events others : List Event) → Beside world other →
      IsStep fragment begun layout world other event next →
      Steps (happens fragment world event) (happens fragment other next) events others →
      Steps world other (event ∷ events) (next ∷ others)
  more_steps world other event next events others beside one more = record {
    may = (one.may, one.premised, more.may);
    beside = more.beside;
    replays = (same_but (querying begun layout) world other beside, one.served, more.replays);
  }

  pub append_steps : (first second others more : List Event) (world other : World) → Steps world other first others →
      Steps (world_after fragment first world) (world_after fragment others other) second more →
      Steps world other (first ++ second) (others ++ more)
  append_steps first second others more world other a b = record {
    may = may_append fragment others more other a.may b.may;
    beside = subst₂ (λ w o. Beside w o) (sym (run_append fragment first second world)) (sym (run_append fragment others more other))
        b.beside;
    replays = replays_append fragment begun.id first second world others more other a.replays b.replays;
  }
