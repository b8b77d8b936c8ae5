-- The contracts that docs/trusted.md lists do not depend on this file; other contracts and proofs do.
-- The laws: what nodes do by themselves are events of a world, so what each world promises holds for all nodes.
use Rattle.std.specs.Prelude.{◌≡◌, ℕ, suc, false, List, [], ◌∷◌, Option, Some, IsSome}
use Rattle.record.specs.declared.call.CallKind.TheVariants.{Read}
use Rattle.record.specs.Fragments.{Code, IsCode}
use Rattle.atomicity.specs.Atomic.{IsAtomic}
use Rattle.network.specs.Worlds.{World}
use Rattle.open_calls.specs.OpenCalls.{NodeCall, open_call}
use Rattle.network.specs.Events.{world_after}
use Rattle.told_replies.specs.EarlyAnswers.{EarlyAnswer}
use Rattle.told_queries.specs.Courses.{Course}
use Rattle.told_queries.specs.Laws.{IsCourse}
use Rattle.letter.specs.declared.letter.Letter.{Letter}
use Rattle.local_object.specs.Local.{LocalObject}
use Rattle.local_object.specs.Events.{LocalEvent, all_done, done_here}
use Rattle.local_object.specs.Outcomes.{silent}
use Rattle.local_object.specs.May.{MayAllHappen, MayHappenHere}
use Rattle.local_object.specs.Resent.{IsResent}
use Rattle.refinement.specs.Parts.{IsPartOf, WasSentAs}
use Rattle.refinement.specs.WellFormed.{IsWellFormed}
use Rattle.local_object.specs.Restarts.{IsKeptHere}
use Rattle.refinement.specs.Refined.{IsPremisedHere, IsRefined, history_after, world_history}
use Rattle.refinement.specs.Starting.{HasEvents, event_count, is_known_by_count, is_querying}
use Rattle.refinement.specs.Refined.{restart_event, world_events}
use Rattle.refinement.specs.Systems.{ArePremisedIn, IsDoneIn, IsCourseOf, IsReachedSystem, System, SystemEvent}
use Rattle.refinement.specs.Systems.{system_after}
use Rattle.refinement.specs.SystemValues.{HasAnswer, HasEarlyAnswer, KeepsValuesIn}

-- what a node does is what the events of `world_events` do in the world, and the history is the same
abbrev pub IsPlainEventOfWorld : LocalEvent → Type 0
IsPlainEventOfWorld event = (fragment : Code) (world : World) (local : LocalObject) → IsWellFormed fragment world →
    IsPartOf world local → MayHappenHere fragment local event → IsPremisedHere world local event →
    IsRefined fragment world (world_events local event) (done_here fragment local event)
    × ((world_after fragment (world_events local event) world).history
    ≡ history_after local event (suc world.now) world.history)

-- unless a call begins or goes on at the node's start, or ends early, or the node raises a pointer, what a node does is
-- what the events of `world_events` do
abbrev pub PlainEventsAreWorldEvents : Type 0
PlainEventsAreWorldEvents = (event : LocalEvent) → is_known_by_count event ≡ false → IsPlainEventOfWorld event

-- what a node does is what some events of the world do, so many, and the history is the same
abbrev pub IsEventOfWorld : LocalEvent → Type 0
IsEventOfWorld event = (fragment : Code) (world : World) (local : LocalObject) → IsWellFormed fragment world →
    IsPartOf world local → MayHappenHere fragment local event → IsPremisedHere world local event →
    HasEvents fragment world (done_here fragment local event) (world_history local event (suc world.now) world.history)
    (event_count local event)

-- whatever a node does is what some events of the world do, unless the first reading of a call stands for its query
abbrev pub LocalEventsAreWorldEvents : Type 0
LocalEventsAreWorldEvents = (event : LocalEvent) → is_querying event ≡ false → IsEventOfWorld event

-- a node that stops and starts again is an event of the world, which leaves the history as it is
abbrev pub RestartsAreWorldEvents : Type 0
RestartsAreWorldEvents = (fragment : Code) (world : World) (before after : LocalObject) → IsWellFormed fragment world →
    IsPartOf world before → IsKeptHere (before.node ≡ (world.files before.node).mover) before after →
    IsRefined fragment world (restart_event world before.node ∷ []) (silent after)
    × ((world_after fragment (restart_event world before.node ∷ []) world).history ≡ world.history)

-- a letter that a node sends again was sent
abbrev pub ResentLettersWereSent : Type 0
ResentLettersWereSent = (fragment : Code) (world : World) (local : LocalObject) (letter : Letter) →
    IsWellFormed fragment world → IsPartOf world local → IsResent fragment local letter → WasSentAs world letter

-- all nodes have a world that is reached by a course, in which their early answers were given
abbrev pub SystemsHaveWorlds : Type 0
SystemsHaveWorlds = (fragment : Code) (system : System) → IsReachedSystem fragment system →
    (course : Course) × (answers : List EarlyAnswer) × IsCourse fragment course
    × IsCourseOf fragment course answers system

-- the history of the calls of all nodes is atomic
abbrev pub SystemsAreAtomic : Type 0
SystemsAreAtomic = (fragment : Code) (system : System) → IsCode fragment → IsReachedSystem fragment system →
    IsAtomic system.history

-- all nodes keep the values of tags
abbrev pub SystemsKeepValues : Type 0
SystemsKeepValues = (fragment : Code) (system : System) → IsCode fragment → IsReachedSystem fragment system →
    KeepsValuesIn fragment system

-- a read that may be answered has settled a value
abbrev pub AnsweredReadsHaveValues : Type 0
AnsweredReadsHaveValues = (fragment : Code) (system : System) (node id : ℕ) (call : NodeCall) → IsCode fragment →
    IsReachedSystem fragment system → MayHappenHere fragment (system.objects node) (LocalEvent.Answer id) →
    open_call (system.objects node).calls id ≡ Some call → call.kind ≡ Read → IsSome call.settled

-- after a call is answered, the history has its answer, with the value that the client is told
abbrev pub AnswersAreInHistory : Type 0
AnswersAreInHistory = (fragment : Code) (system : System) (node id : ℕ) (call : NodeCall) →
    IsReachedSystem fragment system → open_call (system.objects node).calls id ≡ Some call →
    HasAnswer (system_after fragment system (SystemEvent.Acts node (LocalEvent.Answer id))).history call
    (suc system.now)

-- after a call ends early, the history has its answer, with the value that the client is told
abbrev pub EarlyAnswersAreInHistory : Type 0
EarlyAnswersAreInHistory = (fragment : Code) (system : System) (node id : ℕ) (call : NodeCall)
    (value : Option (List ℕ)) → IsReachedSystem fragment system → open_call (system.objects node).calls id ≡ Some call →
    HasEarlyAnswer (system_after fragment system (SystemEvent.Acts node (LocalEvent.EndEarly id value))).history call
    value (suc system.now)

-- several things that a node does in a row are events of all nodes
abbrev pub EventsInARowAreEvents : Type 0
EventsInARowAreEvents = (fragment : Code) (system : System) (node : ℕ) (events : List LocalEvent) →
    MayAllHappen fragment (system.objects node) events → ArePremisedIn fragment system node events →
    IsDoneIn fragment system node events (all_done fragment (system.objects node) events)
