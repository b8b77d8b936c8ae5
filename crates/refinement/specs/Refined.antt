-- The contracts that docs/trusted.md lists do not depend on this file; other contracts and proofs do.
-- Which events of the world an event at a node is, and when the world after them agrees with what all nodes keep.
use Rattle.std.specs.Prelude.{◌≡◌, ◌≢◌, ◌+◌, ℕ, suc, List, [], ◌∷◌, ◌++◌, length, map, Option, None, Some, slice_get}
use Rattle.std.specs.Prelude.{◌==◌, if◌then◌else◌}
use Rattle.std.specs.List.{AllByRecursion}
use Rattle.layout.specs.Layout.{Layout}
use Rattle.bank.specs.declared.reply.Reply.{Reply}
use Rattle.mail.specs.declared.message.Body.{Body}
use Rattle.mail.specs.declared.message.Body.TheVariants as body
use Rattle.record.specs.declared.call.CallKind.{CallKind}
use Rattle.record.specs.declared.call.CallKind.TheVariants.{Read, Write, Move}
use Rattle.record.specs.declared.call.Entry.{Entry}
use Rattle.record.specs.Fragments.{Code}
use Rattle.record.specs.Journals.{operation_of, entry_value}
use Rattle.network.specs.Worlds.{World, after_restart}
use Rattle.open_calls.specs.OpenCalls.{NodeCall, open_call}
use Rattle.network.specs.Events.{Event, world_after, answered_entry}
use Rattle.network.specs.Premises.{IsUnused, MayHappenInTurn}
use Rattle.starts.specs.Starts.{IsStart, WasAskedToRaise}
use Rattle.letter.specs.declared.letter.Letter.{Letter}
use Rattle.local_object.specs.KeptBanks.{kept_reply}
use Rattle.local_object.specs.Local.{LocalObject, bank_here, layout_here}
use Rattle.local_object.specs.Ended.{early_value_of}
use Rattle.local_object.specs.Events.{LocalEvent}
use Rattle.local_object.specs.Outcomes.{Outcome}
use Rattle.refinement.specs.Parts.{IsPartOf, WasSentAs}
use Rattle.refinement.specs.WellFormed.{IsWellFormed}

-- the event, if there is a call
abbrev pub if_carried : Option NodeCall → Event → List Event
if_carried None event = []
if_carried (Some call) event = event ∷ []

-- the event, if there is a reply
abbrev pub if_replied : Option Reply → Event → List Event
if_replied None event = []
if_replied (Some reply) event = event ∷ []

-- the events of the world that it is if the node serves a letter with this body: none if its bank is closed and
-- declines the request, which then counts as lost
abbrev pub served_events : LocalObject → Letter → Body → List Event
served_events local letter (body.Request asked) =
    if_replied (kept_reply (bank_here local letter.message.position letter.message.member) asked)
    (Event.Serve letter.message)
served_events local letter (body.Reply kind made) = []

-- the events of the world that an event at a node is, unless what the node keeps only says how many these are
-- (`is_known_by_count`): one; or none if the node takes a reply to a call that it does not carry out, gives such a call
-- up, serves a request that its bank declines, hears of a letter or sends one back, closes a bank, or its start grows
abbrev pub world_events : LocalObject → LocalEvent → List Event
world_events local (LocalEvent.BeginMove id layout) = Event.BeginMove local.node id layout ∷ []
world_events local (LocalEvent.Advance id) = Event.Advance id ∷ []
world_events local (LocalEvent.Serve letter) = served_events local letter letter.message.body
world_events local (LocalEvent.Take letter) =
    if_carried (open_call local.calls letter.message.call) (Event.Take letter.message)
world_events local (LocalEvent.Settle id value) = Event.Settle id value ∷ []
world_events local (LocalEvent.Answer id) = Event.Answer id ∷ []
world_events local (LocalEvent.GiveUp id) = if_carried (open_call local.calls id) (Event.GiveUp id)
world_events local _ = []

-- a request to raise the pointer of the position to final was sent to the node, as whichever member of it the node is
abbrev pub IsAskedToRaise : World → LocalObject → (position : ℕ) → Type 0
IsAskedToRaise world local position = (member : ℕ) (layout : Layout) → layout_here local position ≡ Some layout →
    slice_get layout.members member ≡ Some local.node → WasAskedToRaise world position member

-- what is assumed of an event at a node: a letter is one that was sent, the id of a call is new, only the node that
-- moves objects begins a move, a start grows to a start of the world, and a node that raises a pointer was asked to
abbrev pub IsPremisedHere : World → LocalObject → LocalEvent → Type 0
IsPremisedHere world local (LocalEvent.BeginRead id) = IsUnused world id
IsPremisedHere world local (LocalEvent.BeginWrite id value) = IsUnused world id
IsPremisedHere world local (LocalEvent.BeginMove id layout) =
    IsUnused world id × (local.node ≡ (world.files local.node).mover)
IsPremisedHere world local (LocalEvent.Serve letter) = WasSentAs world letter
IsPremisedHere world local (LocalEvent.Take letter) = WasSentAs world letter
IsPremisedHere world local (LocalEvent.Grow id) = IsStart world (suc local.start)
IsPremisedHere world local (LocalEvent.Hear letter) = WasSentAs world letter
IsPremisedHere world local (LocalEvent.Redirect letter) = WasSentAs world letter
IsPremisedHere world local (LocalEvent.Raise position) = IsAskedToRaise world local position
IsPremisedHere world local _ = Unit {0}

-- The history

-- the entry of a call that begins at this event
abbrev pub begun_entry : (id : ℕ) → CallKind → (now : ℕ) → Entry
begun_entry id kind now = record {
  call = id;
  kind = operation_of kind;
  called = now;
  answered = None;
  value = entry_value kind None None;
}

-- the history with the answer of a call, if there is one
abbrev pub with_answer : Option NodeCall → (now : ℕ) → List Entry → List Entry
with_answer None now history = history
with_answer (Some call) now history = map (answered_entry call now) history

-- the entry of a call that ends early, which is answered with this value
abbrev pub early_entry : NodeCall → (value : Option (List ℕ)) → (now : ℕ) → Entry → Entry
early_entry call value now entry =
    if entry.call == call.id
    then record entry { answered = Some now; value = early_value_of call.kind value } else entry

-- the history with the answer of a call that ends early, if there is one
abbrev pub with_early_answer : Option NodeCall → (value : Option (List ℕ)) → (now : ℕ) → List Entry → List Entry
with_early_answer None value now history = history
with_early_answer (Some call) value now history = map (early_entry call value now) history

-- the history after an event at a node
abbrev pub history_after : LocalObject → LocalEvent → (now : ℕ) → List Entry → List Entry
history_after local (LocalEvent.BeginRead id) now history = history ++ begun_entry id Read now ∷ []
history_after local (LocalEvent.BeginWrite id value) now history = history ++ begun_entry id (Write value) now ∷ []
history_after local (LocalEvent.BeginMove id layout) now history = history ++ begun_entry id Move now ∷ []
history_after local (LocalEvent.Answer id) now history = with_answer (open_call local.calls id) now history
history_after local (LocalEvent.EndEarly id value) now history =
    with_early_answer (open_call local.calls id) value now history
history_after local _ now history = history

-- the history of the world after an event at a node: an early answer is not in it
abbrev pub world_history : LocalObject → LocalEvent → (now : ℕ) → List Entry → List Entry
world_history local (LocalEvent.EndEarly id value) now history = history
world_history local event now history = history_after local event now history

-- Refinement

-- these events may happen in the world, and lead to a well-formed world of which what the node keeps afterwards is its
-- part, and in which its letters were sent; what other nodes keep and the letters from before remain parts of the world
pub record IsRefined (fragment : Code) (world : World) (events : List Event) (after : Outcome) : Type 0 where
  pub may : MayHappenInTurn fragment events world
  pub formed : IsWellFormed fragment (world_after fragment events world)
  pub part : IsPartOf (world_after fragment events world) after.local
  pub sent : AllByRecursion (WasSentAs (world_after fragment events world)) after.sent
  pub others : (other : LocalObject) → other.node ≢ after.local.node → IsPartOf world other →
      IsPartOf (world_after fragment events world) other
  pub kept : (letter : Letter) → WasSentAs world letter → WasSentAs (world_after fragment events world) letter
  pub files : (world_after fragment events world).files ≡ world.files
  pub now : (world_after fragment events world).now ≡ world.now + length events

-- Restarts

-- the event of the world that corresponds to a restart of a node
abbrev pub restart_event : World → (node : ℕ) → Event
restart_event world node = Event.Restart node world.banks (after_restart node world.calls)
