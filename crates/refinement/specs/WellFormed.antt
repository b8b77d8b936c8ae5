-- The contracts that docs/trusted.md lists do not depend on this file; other contracts and proofs do.
-- What each world that nodes reach keeps, besides what it promises.
use Rattle.std.specs.Prelude.{◌≡◌, ℕ, List, length, map, None, Some, slice_get}
use Rattle.std.specs.List.{AllByRecursion}
use Rattle.layout.specs.Layout.{Layout, IsLawful}
use Rattle.record.specs.declared.call.Entry.{Entry}
use Rattle.mail.specs.declared.message.Message.{Message}
use Rattle.record.specs.Fragments.{Code}
use Rattle.record.specs.Journals.{entry_value, operation_of}
use Rattle.record.specs.Sending.{requests}
use Rattle.network.specs.Worlds.{World, known_layouts}
use Rattle.open_calls.specs.OpenCalls.{NodeCall, NodeCallsDiffer}
use Rattle.network.specs.Premises.{IsOneFile, WasSent}
use Rattle.local_object.specs.Events.{pieces_here}

-- the history has an entry of the call, without an answer, and with its value if the call is a write
pub record HasEntry (history : List Entry) (call : NodeCall) : Type 0 where
  pub place : ℕ
  pub entry : Entry
  pub at : slice_get history place ≡ Some entry
  pub same_id : entry.call ≡ call.id
  pub kind : entry.kind ≡ operation_of call.kind
  pub unanswered : entry.answered ≡ None
  pub value : entry.value ≡ entry_value call.kind None None

-- the requests of a call's current phase, at a position with this layout
abbrev pub current_requests : Code → Layout → NodeCall → List Message
current_requests fragment layout call =
    requests call.id call.phase.number call.phase.kind call.phase.position layout.members 0
    (pieces_here fragment layout call)

-- the position of the call's current phase is one of the world's, and the requests of the phase were sent
pub record HasAsked (fragment : Code) (world : World) (call : NodeCall) : Type 0 where
  pub layout : Layout
  pub at : slice_get (known_layouts world 0) call.phase.position ≡ Some layout
  pub asked : (place : ℕ) (message : Message) →
      slice_get (current_requests fragment layout call) place ≡ Some message → WasSent world message

-- the number of members of a layout
abbrev pub member_count : Layout → ℕ
member_count layout = length layout.members

-- the nodes have one cluster file; layouts are lawful; each position has a bank for each member; and the open calls
-- have distinct ids, entries in the history, and current phases whose requests were sent
pub record IsWellFormed (fragment : Code) (world : World) : Type 0 where
  pub one : IsOneFile world.files
  pub lawful : AllByRecursion IsLawful (known_layouts world 0)
  pub banks : map length world.banks ≡ map member_count (known_layouts world 0)
  pub ids : NodeCallsDiffer world.calls
  pub entries : AllByRecursion (HasEntry world.history) world.calls
  pub asked : AllByRecursion (HasAsked fragment world) world.calls
