-- The world of a run beside that of another run, in which a call that reads first has queried already.
use Rattle.std.proofs.Common.{◌≡◌, suc}
use Rattle.layout.specs.Layout.{Layout}
use Rattle.bank.specs.declared.kind.Kind.TheVariants.{Query}
use Rattle.mail.specs.declared.message.Message.{Message}
use Rattle.record.specs.Steps.{new_phase}
use Rattle.open_calls.specs.OpenCalls.{NodeCall, with_open}
use Rattle.open_calls.specs.Queries.{query_stage}
use Rattle.network.specs.Worlds.{World}
use Rattle.network.specs.Events.{IsOpen}
use Rattle.network.specs.Premises.{WasSent}
use Rattle.told_queries.specs.Courses.{as_begun}

-- the call as it queries, with no reply yet
abbrev pub querying : NodeCall → Layout → NodeCall
querying call layout = record call {
  stage = query_stage call.phase.position;
  phase = new_phase call.id (suc call.phase.number) Query call.phase.position layout 0;
}

-- in the world the call is open, and still in the phase as which it began; it may have taken replies since
pub record IsSoFar (begun : NodeCall) (world : World) : Type 0 where
  pub call : NodeCall
  pub open_there : IsOpen world begun.id call
  pub same : as_begun call ≡ begun

-- the other world is the same, but for the call, which is this one there, and for more messages
pub record IsBeside (asking : NodeCall) (world other : World) : Type 0 where
  pub files : other.files ≡ world.files
  pub later : other.later ≡ world.later
  pub banks : other.banks ≡ world.banks
  pub history : other.history ≡ world.history
  pub now : other.now ≡ world.now
  pub calls : other.calls ≡ with_open asking world.calls
  pub sent : (message : Message) → WasSent world message → WasSent other message
