-- The contracts that docs/trusted.md lists do not depend on this file; other contracts and proofs do.
-- Runs of worlds in turns, which keep events in reserve, and what members told with the replies of a turn.
use Rattle.std.specs.Prelude.{◌≡◌, ◌≢◌, ◌+◌, ◌*◌, ◌<◌, ℕ, List, [], ◌∷◌, ◌++◌, length, None, IsSome, slice_get}
use Rattle.std.specs.List.{AllByRecursion}
use Rattle.tag.specs.declared.limits.TheConstants.{MOST_MEMBERS}
use Rattle.mail.specs.declared.message.Message.{Message}
use Rattle.record.specs.Fragments.{Code}
use Rattle.open_calls.specs.OpenCalls.{NodeCall, open_call}
use Rattle.network.specs.Worlds.{ClusterFile, World, known_layouts, member_bank, opened_world}
use Rattle.network.specs.Events.{Event, IsOpen, happens, world_after}
use Rattle.letter.specs.Tellings.{telling_of}
use Rattle.letter.specs.declared.telling.Telling.{Telling}
use Rattle.starts.specs.Reading.{HasSent}
use Rattle.told_replies.specs.Tellings.{Run}

-- a turn of a run: the id of the call that it is about, the events by which something happened, and then others in
-- reserve, by which nothing happened yet
pub record Turn : Type 0 where
  pub call : ℕ
  pub acts : List Event
  pub spare : List Event

-- all events of a turn
abbrev pub turn_events : Turn → List Event
turn_events turn = turn.acts ++ turn.spare

-- all events of these turns
abbrev pub events_of : List Turn → List Event
events_of [] = []
events_of (turn ∷ turns) = turn_events turn ++ events_of turns

-- a run of separate nodes in turns: the cluster files that they run with, and the turns, from an opened world on
pub record Course : Type 0 where
  pub files : (node : ℕ) → ClusterFile
  pub turns : List Turn

-- the same run, as its events
abbrev pub run_of : Course → Run
run_of course = record { files = course.files; events = events_of course.turns }

-- the world after these turns, from an opened one on
abbrev pub world_after_turns : Code → (files : ℕ → ClusterFile) → List Turn → World
world_after_turns fragment files turns = world_after fragment (events_of turns) (opened_world files)

-- the event changes nothing but the number of events: it gives up a call that nobody carries out
abbrev pub IsWait : World → Event → Type 0
IsWait world event = (id : ℕ) × (event ≡ Event.GiveUp id) × (open_call world.calls id ≡ None)

-- all these events are so, from this world on
abbrev pub AreWaits : World → List Event → Type 0
AreWaits world events = AllByRecursion (IsWait world) events

-- how many events a turn keeps in reserve: enough for a quorum to serve a request, for the call to take the replies,
-- and for the next phase to begin
abbrev pub spare_events : ℕ
spare_events = 2 * MOST_MEMBERS + 1

-- Room for a query

-- the call as its current phase began
abbrev pub as_begun : NodeCall → NodeCall
as_begun call = record call { phase = record call.phase { replies = []; end = None } }

-- in each of these turns, from this world on, in which a member serves a request of this phase of the call, there are
-- events in reserve
abbrev pub ServesLeaveRoom : Code → (call number : ℕ) → World → List Turn → Type 0
ServesLeaveRoom fragment call number world [] = Unit {0}
ServesLeaveRoom fragment call number world (turn ∷ turns) =
    ((request : Message) → turn.call ≡ call → turn.acts ≡ Event.Serve request ∷ [] → request.call ≡ call →
    request.phase ≡ number →
    (0 < length turn.spare) × AreWaits (happens fragment world (Event.Serve request)) turn.spare)
    × ServesLeaveRoom fragment call number (world_after fragment (turn_events turn) world) turns

-- the current phase of the call, in which it was not before, began in a turn of its own, and there is room in this turn
-- and in each later one in which a member serves a request of the phase
pub record HasRoom (fragment : Code) (course : Course) (call : NodeCall) : Type 0 where
  pub before : List Turn
  pub turn : Turn
  pub after : List Turn
  pub split : course.turns ≡ before ++ turn ∷ after
  pub about : turn.call ≡ call.id
  pub fresh : (earlier : NodeCall) → IsOpen (world_after_turns fragment course.files before) call.id earlier →
      earlier.phase.number ≢ call.phase.number
  pub begun : IsOpen
      (world_after fragment turn.acts (world_after_turns fragment course.files before)) call.id (as_begun call)
  pub placed : IsSome (slice_get
      (known_layouts (world_after fragment turn.acts (world_after_turns fragment course.files before)) 0)
      call.phase.position)
  pub asked : HasSent
      (world_after fragment turn.acts (world_after_turns fragment course.files before)) (as_begun call)
  pub waits : AreWaits
      (world_after fragment turn.acts (world_after_turns fragment course.files before)) turn.spare
  pub enough : length turn.spare ≡ spare_events
  pub serves : ServesLeaveRoom fragment call.id call.phase.number
      (world_after fragment (turn_events turn) (world_after_turns fragment course.files before)) after

-- What members told

-- in a turn about the request's call, a member served this request, and it told this with its reply
pub record WasToldIn (fragment : Code) (course : Course) (request : Message) (telling : Telling) : Type 0 where
  pub before : List Turn
  pub turn : Turn
  pub after : List Turn
  pub split : course.turns ≡ before ++ turn ∷ after
  pub about : turn.call ≡ request.call
  pub serves : turn.acts ≡ Event.Serve request ∷ []
  pub tells : telling_of
      (member_bank (happens fragment (world_after_turns fragment course.files before) (Event.Serve request))
      request.position request.member) ≡ telling
