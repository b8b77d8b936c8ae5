-- The contracts that docs/trusted.md lists do not depend on this file; other contracts and proofs do.
-- How many events of the world an event at a node is, where calls begin at a start of the object; and how starts grow.
use Rattle.std.specs.Prelude.{◌≡◌, ◌*◌, ◌-◌, ℕ, suc, Bool, true, false, List, length, Option, None, Some, IsSome}
use Rattle.layout.specs.Layout.{Layout, quorum_of}
use Rattle.bank.specs.declared.kind.Kind.TheVariants.{Spread}
use Rattle.bank.specs.declared.status.Status.TheVariants as status
use Rattle.record.specs.declared.call.Entry.{Entry}
use Rattle.record.specs.Fragments.{Code}
use Rattle.open_calls.specs.OpenCalls.{NodeCall, open_call}
use Rattle.network.specs.Worlds.{World}
use Rattle.network.specs.Events.{Event, world_after}
use Rattle.network.specs.Laws.{IsReached}
use Rattle.starts.specs.Reading.{most_events}
use Rattle.starts.specs.Starts.{IsStart}
use Rattle.local_object.specs.Local.{LocalObject, layout_here}
use Rattle.local_object.specs.Events.{LocalEvent}
use Rattle.local_object.specs.Outcomes.{Outcome}
use Rattle.local_object.specs.May.{IsCarriedOut}
use Rattle.refinement.specs.Parts.{IsPartOf}
use Rattle.refinement.specs.Refined.{IsRefined, world_events}
use Rattle.refinement.specs.WellFormed.{IsWellFormed}

-- whether what the node keeps only says how many events of the world this is, and not which: a call begins or goes on
-- at the node's start, for which the world may need many events; or the node raises a pointer to final, and the world
-- serves a request of some call to do so; or a call ends early, where the world waits first; or the first reading of a
-- call stands for its query, where the world has another run, in which the call queried
abbrev pub is_known_by_count : LocalEvent → Bool
is_known_by_count (LocalEvent.BeginRead id) = true
is_known_by_count (LocalEvent.BeginWrite id value) = true
is_known_by_count (LocalEvent.ReadOn id) = true
is_known_by_count (LocalEvent.BeginAnew id) = true
is_known_by_count (LocalEvent.Raise position) = true
is_known_by_count (LocalEvent.EndEarly id value) = true
is_known_by_count (LocalEvent.Query id) = true
is_known_by_count _ = false

-- how many positions a call leaves behind as it goes on at a start
abbrev pub left_behind : Option NodeCall → (start : ℕ) → ℕ
left_behind None start = 0
left_behind (Some call) start = start - call.phase.position

-- the quorum of a layout, if the node has heard of it
abbrev pub quorum_known : Option Layout → ℕ
quorum_known None = 0
quorum_known (Some layout) = quorum_of layout

-- how many replies a query of the call takes: those of a quorum
abbrev pub replies_taken : LocalObject → Option NodeCall → ℕ
replies_taken local None = 0
replies_taken local (Some call) = quorum_known (layout_here local call.phase.position)

-- how many events of the world an event at a node is: at the start, for each position that the call leaves behind as
-- many as this may take at most, and one more if the call begins, for the first time or anew; one if the node raises a
-- pointer; a call that ends early is given up in the world, and before that the world waits for one event, after which
-- the client is answered; and as many as replies are taken if the first reading of a call stands for its query
abbrev pub event_count : LocalObject → LocalEvent → ℕ
event_count local (LocalEvent.BeginRead id) = suc (local.start * most_events)
event_count local (LocalEvent.BeginWrite id value) = suc (local.start * most_events)
event_count local (LocalEvent.ReadOn id) = left_behind (open_call local.calls id) local.start * most_events
event_count local (LocalEvent.BeginAnew id) = suc (local.start * most_events)
event_count local (LocalEvent.Raise position) = 1
event_count local (LocalEvent.EndEarly id value) = 2
event_count local (LocalEvent.Query id) = replies_taken local (open_call local.calls id)
event_count local event = length (world_events local event)

-- whether an event is that the first reading of a call stands for its query
abbrev pub is_querying : LocalEvent → Bool
is_querying (LocalEvent.Query id) = true
is_querying _ = false

-- the id of the call that an event at a node is about; 0 if it is about none
abbrev pub about : LocalEvent → ℕ
about (LocalEvent.BeginRead id) = id
about (LocalEvent.BeginWrite id value) = id
about (LocalEvent.BeginMove id layout) = id
about (LocalEvent.Advance id) = id
about (LocalEvent.Serve letter) = letter.message.call
about (LocalEvent.ReadOn id) = id
about (LocalEvent.BeginAnew id) = id
about _ = 0

-- this many events may happen in the world, after which it agrees with what all nodes keep, and has this history
pub record HasEvents (fragment : Code) (world : World) (after : Outcome) (history : List Entry) (count : ℕ)
    : Type 0 where
  pub events : List Event
  pub number : length events ≡ count
  pub refined : IsRefined fragment world events after
  pub entries : (world_after fragment events world).history ≡ history

-- after a call of a node spread a final pointer at a start to a quorum, the next position is a start
abbrev pub StartsGrow : Type 0
StartsGrow = (fragment : Code) (world : World) (local : LocalObject) (id : ℕ) (call : NodeCall) →
    IsReached fragment world → IsWellFormed fragment world → IsPartOf world local → IsCarriedOut local id call →
    call.phase.kind ≡ Spread status.Final → IsSome call.phase.end → IsStart world call.phase.position →
    IsStart world (suc call.phase.position)
