-- The contracts that docs/trusted.md lists do not depend on this file; other contracts and proofs do.
-- The laws about starts.
use Rattle.std.specs.Prelude.{◌≡◌, ◌+◌, ◌*◌, ◌-◌, ◌<◌, ℕ, List, length, Some, slice_get, IsSome}
use Rattle.layout.specs.Layout.{Layout}
use Rattle.bank.specs.declared.kind.Kind.TheVariants.{Spread}
use Rattle.bank.specs.declared.status.Status.TheVariants as status
use Rattle.record.specs.Fragments.{Code}
use Rattle.open_calls.specs.OpenCalls.{NodeCall}
use Rattle.network.specs.Worlds.{World, known_layouts}
use Rattle.network.specs.Events.{Event, IsOpen, happens, world_after}
use Rattle.network.specs.Premises.{IsUnused, MayHappenInTurn}
use Rattle.network.specs.Laws.{IsReached}
use Rattle.starts.specs.Starts.{IsFinalAt, IsStart, WasAskedToRaise}
use Rattle.starts.specs.Reading.{HasBegunToRead, IsReading, LeadsTo, most_events, reading_at}

-- a pointer that is final at a quorum is so after events that may happen, however many
abbrev pub FinalsStay : Type 0
FinalsStay = (fragment : Code) (world : World) (events : List Event) (position : ℕ) →
    MayHappenInTurn fragment events world → IsFinalAt world position →
    IsFinalAt (world_after fragment events world) position

-- a call that reads before a start may go on to the start
abbrev pub CallsReadOn : Type 0
CallsReadOn = (fragment : Code) (world : World) (id : ℕ) (call : NodeCall) (position start : ℕ) →
    IsReached fragment world → IsStart world start → IsOpen world id call → IsReading world call position →
    position < start →
    LeadsTo fragment world (reading_at world call (call.phase.number + 2 * (start - position)) start)
    ((start - position) * most_events)

-- a read or a write that begins reads at position 0, with phase number 1
abbrev pub BegunCallsRead : Type 0
BegunCallsRead = (fragment : Code) (world : World) (node id : ℕ) (value : List ℕ) →
    IsReached fragment world → IsUnused world id →
    HasBegunToRead (happens fragment world (Event.BeginRead node id)) node id
    × HasBegunToRead (happens fragment world (Event.BeginWrite node id value)) node id

-- where a call has spread a final pointer to a quorum, the pointer of the position is final at a quorum
abbrev pub CompleteSpreadsAreFinal : Type 0
CompleteSpreadsAreFinal = (fragment : Code) (world : World) (id : ℕ) (call : NodeCall) →
    IsReached fragment world → IsOpen world id call → call.phase.kind ≡ Spread status.Final →
    IsSome call.phase.end → IsFinalAt world call.phase.position

-- at each position before a start, a request to raise the pointer to final was sent to each member
abbrev pub MembersWereAsked : Type 0
MembersWereAsked = (fragment : Code) (world : World) (start position member : ℕ) (layout : Layout) →
    IsReached fragment world → IsStart world start → position < start →
    slice_get (known_layouts world 0) position ≡ Some layout → member < length layout.members →
    WasAskedToRaise world position member
