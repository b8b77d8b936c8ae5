-- The contracts that docs/trusted.md lists do not depend on this file; other contracts and proofs do.
-- What may happen in a world, and the world after each event.
use Rattle.std.specs.Prelude.{◌≡◌, ◌≢◌, ◌⊎◌, ℕ, suc, ◌==◌, false, if◌then◌else◌, IsSome}
use Rattle.std.specs.Prelude.{List, [], ◌∷◌, ◌++◌, length, map, Option, None, Some, get_or, slice_set}
use Rattle.std.specs.List.{AllByRecursion}
use Rattle.layout.specs.Layout.{Layout, IsLawful}
use Rattle.piece.specs.declared.piece.Piece.{Piece}
use Rattle.bank.specs.Bank.{Bank, empty_piece}
use Rattle.bank.specs.Serve.{served_bank, reply_to}
use Rattle.bank.specs.declared.kind.Kind.{Kind}
use Rattle.bank.specs.declared.kind.Kind.TheVariants.{Next, Spread}
use Rattle.bank.specs.declared.reply.Reply.{Reply}
use Rattle.bank.specs.declared.request.Request.{Request}
use Rattle.bank.specs.declared.status.Status.TheVariants.{Pending}
use Rattle.mail.specs.Message.{answered}
use Rattle.mail.specs.declared.message.Body.{Body}
use Rattle.mail.specs.declared.message.Body.TheVariants as body
use Rattle.mail.specs.declared.message.Message.{Message}
use Rattle.mail.specs.Phase.{lacks_pieces}
use Rattle.record.specs.declared.call.CallKind.{CallKind}
use Rattle.record.specs.declared.call.CallKind.TheVariants.{Read, Write, Move}
use Rattle.record.specs.declared.call.Entry.{Entry}
use Rattle.record.specs.declared.stage.Stage.{Stage}
use Rattle.record.specs.Fragments.{Code, IsValue, IsFetch, HasPieces}
use Rattle.record.specs.Journals.{operation_of, entry_value}
use Rattle.record.specs.Legal.{first_stage}
use Rattle.record.specs.PhaseOrder.{begun_at}
use Rattle.record.specs.Sending.{fragment_piece, requests, sent_value, value_or_empty}
use Rattle.record.specs.Steps.{new_phase}
use Rattle.open_calls.specs.OpenCalls.{NodeCall, IsLacking, IsReady, due_phase, open_call, stage_reached, taking_open}
use Rattle.open_calls.specs.OpenCalls.{with_open, without_call}
use Rattle.network.specs.Worlds.{World, new_banks, known_layout, member_bank, parts_of}

-- the events of a world; a call is named by its id, and a request or a reply is the message itself
pub data Event : Type 0 where
  BeginRead : (node id : ℕ) → Event
  BeginWrite : (node id : ℕ) → List ℕ → Event
  BeginMove : (node id : ℕ) → Layout → Event
  Advance : (id : ℕ) → Event
  Serve : Message → Event
  Take : Message → Event
  Settle : (id : ℕ) → List ℕ → Event
  Answer : (id : ℕ) → Event
  GiveUp : (id : ℕ) → Event
  Restart : (node : ℕ) → List (List Bank) → List NodeCall → Event

-- Calls

-- the requests that a call of a node sends as it begins a phase
abbrev pub phase_requests : World → (node call number : ℕ) → Kind → (position : ℕ) → (ℕ → Piece) → List Message
phase_requests world node call number kind position piece =
    requests call number kind position (known_layout world node position).members 0 piece

-- the world after a node begins a call with a first phase of this kind, which sends no pieces
abbrev pub begun_world : World → (node id : ℕ) → CallKind → Stage → Kind → (position : ℕ) → World
begun_world world node id call_kind stage kind position = record world {
  calls = world.calls ++ record {
    node = node;
    id = id;
    kind = call_kind;
    settled = None;
    stage = stage;
    phase = new_phase id 1 kind position (known_layout world node position) 0;
  } ∷ [];
  sent = world.sent ++ phase_requests world node id 1 kind position empty_piece;
  history = world.history ++ record {
    call = id;
    kind = operation_of call_kind;
    called = world.now;
    answered = None;
    value = entry_value call_kind None None;
  } ∷ [];
}

-- the world after a node begins a read or a write: its first phase reads the sequence of layouts at position 0
abbrev pub called_world : World → (node id : ℕ) → CallKind → World
called_world world node id kind = begun_world world node id kind (begun_at (first_stage kind 0) 0) Next 0

-- the world after a node begins a move from the last position to a new one with this layout
abbrev pub moving_world : World → (node id : ℕ) → Layout → World
moving_world world node id layout =
    let last = length world.later in
    begun_world
    (record world {
      later = world.later ++ layout ∷ [];
      banks = world.banks ++ new_banks world.files layout.members 0 ∷ [];
    }) node id Move (first_stage Move last) (Spread Pending) last

-- the pieces that a call sends to the members of a position
abbrev pub call_pieces : Code → World → NodeCall → (position member : ℕ) → Piece
call_pieces fragment world call position =
    fragment_piece fragment (known_layout world call.node position) (value_or_empty (sent_value call.kind call.settled))

-- the world after a call begins the phase that is due, if there is one
abbrev pub advanced_world : Code → World → NodeCall → Option (Kind × ℕ) → World
advanced_world fragment world call None = world
advanced_world fragment world call (Some next) =
    let number = suc call.phase.number in record world {
      calls = with_open
          (record call {
            stage = begun_at (stage_reached call) next.1;
            phase = new_phase call.id number next.0 next.1 (known_layout world call.node next.1) 0;
          }) world.calls;
      sent = world.sent
          ++ phase_requests world call.node call.id number next.0 next.1 (call_pieces fragment world call next.1);
    }

-- the entry of a call as it is answered
abbrev pub answered_entry : NodeCall → (now : ℕ) → Entry → Entry
answered_entry call now entry =
    if entry.call == call.id
    then record entry { answered = Some now; value = entry_value call.kind (Some now) call.settled } else entry

-- the world after a call is answered
abbrev pub answered_world : World → NodeCall → World
answered_world world call = record world {
  calls = without_call call.id world.calls;
  history = map (answered_entry call world.now) world.history;
}

-- Messages

-- the world after a node serves a request: its bank changes, and it sends the reply
abbrev pub handled_world : World → Message → Request → World
handled_world world message asked =
    let bank = member_bank world message.position message.member in record world {
      banks = slice_set world.banks message.position
          (slice_set (get_or world.banks message.position []) message.member (served_bank bank asked 0));
      sent = world.sent ++ answered message (reply_to bank asked 0) ∷ [];
    }

-- the world after a message with this body is served if it is a request; a reply changes nothing
abbrev pub served_world : World → Message → Body → World
served_world world message (body.Request asked) = handled_world world message asked
served_world world message (body.Reply kind made) = world

-- the world after a change that needs the call, if a node carries it out
abbrev pub on_open : World → Option NodeCall → (NodeCall → World) → World
on_open world None change = world
on_open world (Some call) change = change call

-- the world after an event, whose number is already counted
abbrev pub changed : Code → World → Event → World
changed fragment world (Event.BeginRead node id) = called_world world node id Read
changed fragment world (Event.BeginWrite node id value) = called_world world node id (Write value)
changed fragment world (Event.BeginMove node id layout) = moving_world world node id layout
changed fragment world (Event.Advance id) =
    on_open world (open_call world.calls id) (λ call. advanced_world fragment world call (due_phase call))
changed fragment world (Event.Serve message) = served_world world message message.body
changed fragment world (Event.Take message) =
    on_open world (open_call world.calls message.call)
    (λ call. record world { calls = with_open (taking_open message call) world.calls })
changed fragment world (Event.Settle id value) =
    on_open world (open_call world.calls id)
    (λ call. record world { calls = with_open (record call { settled = Some value }) world.calls })
changed fragment world (Event.Answer id) =
    on_open world (open_call world.calls id) (λ call. answered_world world call)
changed fragment world (Event.GiveUp id) = record world { calls = without_call id world.calls }
changed fragment world (Event.Restart node banks calls) = record world { banks = banks; calls = calls }

-- the world after an event
abbrev pub happens : Code → World → Event → World
happens fragment world event = changed fragment (record world { now = suc world.now }) event

-- the world after these events
abbrev pub world_after : Code → List Event → World → World
world_after fragment [] world = world
world_after fragment (event ∷ events) world = world_after fragment events (happens fragment world event)

-- When a node may act

-- the value may be settled: the current phase is a complete fetch, which took k pieces of it
pub record IsFetched (fragment : Code) (world : World) (call : NodeCall) (value : List ℕ) : Type 0 where
  pub complete : IsSome call.phase.end
  pub fetch : IsFetch call.phase.kind
  pub unsettled : call.settled ≡ None
  pub enough : lacks_pieces call.phase ≡ false
  pub pieces : HasPieces fragment (parts_of world call.node) call.phase value
  pub is_value : IsValue value

-- a node carries out the call with this id
abbrev pub IsOpen : World → (id : ℕ) → NodeCall → Type 0
IsOpen world id call = open_call world.calls id ≡ Some call

-- the event may happen, as far as the rules of the nodes say; a node moves objects if its own file names it
abbrev pub MayHappen : Code → World → Event → Type 0
MayHappen fragment world (Event.BeginRead node id) = Unit {0}
MayHappen fragment world (Event.BeginWrite node id value) = IsValue value
MayHappen fragment world (Event.BeginMove node id layout) =
    IsLawful layout × (node ≡ (world.files node).mover)
    × AllByRecursion (λ call. call.node ≡ node → call.kind ≢ Move) world.calls
MayHappen fragment world (Event.Advance id) =
    (call : NodeCall) × IsOpen world id call × ((IsReady call × IsSome (due_phase call)) ⊎ IsLacking call)
MayHappen fragment world (Event.Serve message) = (asked : Request) × (message.body ≡ body.Request asked)
MayHappen fragment world (Event.Take message) =
    (kind : Kind) × (made : Reply) × (message.body ≡ body.Reply kind made)
MayHappen fragment world (Event.Settle id value) =
    (call : NodeCall) × IsOpen world id call × IsFetched fragment world call value
MayHappen fragment world (Event.Answer id) =
    (call : NodeCall) × IsOpen world id call × IsReady call × (due_phase call ≡ None)
MayHappen fragment world (Event.GiveUp id) =
    AllByRecursion (λ call. call.id ≡ id → call.kind ≢ Move) world.calls
MayHappen fragment world (Event.Restart node banks calls) = Unit {0}
