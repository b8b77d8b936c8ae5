-- The contracts that docs/trusted.md lists do not depend on this file; other contracts and proofs do.
-- Open calls that read the sequence of layouts, and events that let such a call go on.
use Rattle.std.specs.Prelude.{◌≡◌, ◌+◌, ◌*◌, ◌<◌, ◌≤◌, ℕ, List, ◌++◌, length, None, Some, slice_get}
use Rattle.tag.specs.declared.limits.TheConstants.{MOST_MEMBERS}
use Rattle.layout.specs.Layout.{quorum_of}
use Rattle.bank.specs.Bank.{empty_piece}
use Rattle.bank.specs.declared.kind.Kind.TheVariants.{Next}
use Rattle.mail.specs.declared.message.Message.{Message}
use Rattle.record.specs.declared.stage.Stage.TheVariants.{ReadNext}
use Rattle.record.specs.Fragments.{Code}
use Rattle.record.specs.Steps.{new_phase}
use Rattle.open_calls.specs.OpenCalls.{NodeCall, with_open}
use Rattle.network.specs.Worlds.{World, known_layout}
use Rattle.network.specs.Events.{Event, IsOpen, phase_requests, world_after}
use Rattle.network.specs.Premises.{MayHappenInTurn, WasSent}

-- the requests of the call's current phase, which sends no pieces, were sent
abbrev pub HasSent : World → NodeCall → Type 0
HasSent world call = (place : ℕ) (message : Message) →
    slice_get (phase_requests world call.node call.id call.phase.number call.phase.kind call.phase.position empty_piece)
    place ≡ Some message → WasSent world message

-- the call reads the sequence of layouts at this position: its current phase asks there for the pointer, has sent its
-- requests, and still lacks a quorum of replies
pub record IsReading (world : World) (call : NodeCall) (position : ℕ) : Type 0 where
  pub finalized : ℕ
  pub stage : call.stage ≡ ReadNext position finalized
  pub kind : call.phase.kind ≡ Next
  pub at : call.phase.position ≡ position
  pub own : call.phase.call ≡ call.id
  pub quorum : call.phase.quorum ≡ quorum_of (known_layout world call.node position)
  pub few : length call.phase.replies < call.phase.quorum
  pub unended : call.phase.end ≡ None
  pub sent : HasSent world call

-- the node carries out a call with this id, and the first phase of this call reads at position 0
pub record HasBegunToRead (world : World) (node id : ℕ) : Type 0 where
  pub call : NodeCall
  pub open_there : IsOpen world id call
  pub by_node : call.node ≡ node
  pub first : call.phase.number ≡ 1
  pub reads : IsReading world call 0

-- the call as it has just begun to read at this position, with a phase of this number
abbrev pub reading_at : World → NodeCall → (number position : ℕ) → NodeCall
reading_at world call number position = record call {
  stage = ReadNext position position;
  phase = new_phase call.id number Next position (known_layout world call.node position) 0;
}

-- the most events by which a call leaves a position behind: in two phases, which begin, members of a quorum serve, and
-- the call takes their replies
abbrev pub most_events : ℕ
most_events = 4 * MOST_MEMBERS + 2

-- the world after events that change one call, which is this one afterwards, and send these messages; so many events
-- have happened then
abbrev pub world_with : World → NodeCall → (sent : List Message) → (now : ℕ) → World
world_with world call sent now = record world {
  calls = with_open call world.calls;
  sent = world.sent ++ sent;
  now = now;
}

-- there are events, at most so many, that may happen, and change nothing but one call, which is this one afterwards,
-- the messages that were sent, among them the requests of the call's phase, and the number of events
pub record LeadsTo (fragment : Code) (world : World) (call : NodeCall) (most : ℕ) : Type 0 where
  pub events : List Event
  pub few : length events ≤ most
  pub may : MayHappenInTurn fragment events world
  pub sent : List Message
  pub now : ℕ
  pub result : world_after fragment events world ≡ world_with world call sent now
  pub asked : HasSent (world_after fragment events world) call
