-- Which requests a node sends again at a tick.
use Rattle.std.specs.Prelude.{◌≡◌, ⊤, ℕ, ◌||◌, ◌&&◌, not, Bool, true, false, if◌then◌else◌, List, [], ◌∷◌, ◌++◌}
use Rattle.std.specs.Prelude.{Option, None, Some}
use Rattle.indexmap.specs.IndexMap.{keys}
use Rattle.local_object.specs.Doing.{give_up_events}
use Rattle.node_keeper.specs.Doing.{IsOutcomeAt}
use Rattle.node_keeper.specs.Objects.{objects_of}
use Rattle.node_strings.specs.declared.arrival.Arrival.{Arrival}
use Rattle.node_strings.specs.declared.arrival.Arrival.TheVariants as came
use Rattle.node_effects.specs.Work.{send_all}
use Rattle.node_effects.specs.declared.output.Output.{Output}
use Rattle.node_clients.specs.Calls.{aged_call, call_under}
use Rattle.node_clients.specs.Served.{IsServiceDone}
use Rattle.node_clients.specs.Services.{Service}
use Rattle.node_clients.specs.declared.open_call.Aged.{Aged}
use Rattle.node_keeper.specs.Delivering.{KeepsRest}
use Rattle.node_keeper.specs.Resending.{IsAskedAgain, sendings_again}
use Rattle.node_keeper.specs.Sendings.{Sending, posted}
use Rattle.node_keeper.specs.declared.keeper.Keeper.{Keeper}
use Rattle.node_strings.specs.declared.heard.Heard.{Heard}
use Rattle.node_messages.specs.Reading.{message_from}
use Rattle.node.specs.Hearing.{HearsIfRead}
use Rattle.node.specs.Peers.{with_tick}
use Rattle.node.specs.Serving.{IsTickOf}
use Rattle.node.specs.declared.node.Node.{Node}

-- the call of this id, if it is open, made older by a tick at a node
abbrev pub aged_at : Node → (id : ℕ) → Option Aged
aged_at node id = aged_call node.keeper.file.ticks (call_under node.desk.calls id)

-- the requests of the call of this id, if it is to ask again, also those to all nodes if it is to ask them
abbrev pub again_if : (asks asks_all : Bool) → Keeper → (name : List ℕ) → (id : ℕ) → List Sending
again_if asks asks_all keeper name id = if asks then sendings_again name id asks_all keeper else []

-- the requests that a call sends as it gets older by a tick, if it is of an age to ask again, unless it is given up, as
-- a read or a write is that is late: those with which it goes on at the object's start, or those of its current phase
-- to the members that have not replied; and also to all nodes the first of these, if it asks for the next position and
-- the call is of an age to ask all nodes
abbrev pub sent_at_age : Keeper → (id : ℕ) → Option Aged → List Sending
sent_at_age keeper id None = []
sent_at_age keeper id (Some aged) =
    again_if ((not aged.is_late || aged.is_move) && aged.asks_again) aged.asks_all keeper aged.name id

-- between these outputs, exactly the frames of these letters to other nodes were put out
abbrev pub PutsOut : Keeper → List Sending → (before after : List Output) → Type 0
PutsOut keeper sends before after = after ≡ before ++ send_all (posted keeper.ids.node keeper.digest sends)

-- what the node keeps when a call was given up, or asked again, or did neither
abbrev pub IsKeptAs : (given_up asks : Bool) → (old : Keeper) → (name : List ℕ) → (id : ℕ) → (new : Keeper) → Type 0
IsKeptAs false false old name id new = new ≡ old
IsKeptAs false true old name id new = IsAskedAgain old name id new
IsKeptAs true asks old name id new =
    IsOutcomeAt old.objects name (give_up_events (objects_of old.objects name) id) new.objects [] × KeepsRest old new

-- of the node, at most what it keeps of objects has changed
pub record HasSameRest (old new : Node) : Type 0 where
  pub desk : new.desk ≡ old.desk
  pub peers : new.peers ≡ old.peers
  pub named : new.is_named ≡ old.is_named

-- what the node keeps when a call got older by a tick: the same, unless the call was given up, or went on at the
-- object's start
abbrev pub IsKeptAtAge : (old : Keeper) → (id : ℕ) → Option Aged → (new : Keeper) → Type 0
IsKeptAtAge old id None new = new ≡ old
IsKeptAtAge old id (Some aged) new = IsKeptAs (aged.is_late && not aged.is_move) aged.asks_again old aged.name id new

-- an open call got older by a tick, and sent these requests again
pub record IsTicked (id : ℕ) (old : Node) (sends : List Sending) (new : Node) : Type 0 where
  pub service : Service
  pub tick : IsTickOf id service
  pub done : IsServiceDone old.keeper.file.ticks old.keeper.file.fixed.delta old.desk service new.desk
  pub sent : sends ≡ sent_at_age old.keeper id (aged_at old id)
  pub kept : IsKeptAtAge old.keeper id (aged_at old id) new.keeper

-- these calls got older by a tick, one after another, and sent these requests again
abbrev pub AreTicked : (ids : List ℕ) → (old : Node) → List Sending → (new : Node) → Type 0
AreTicked [] old sends new = (sends ≡ []) × (new ≡ old)
AreTicked (id ∷ ids) old sends new =
    (between : Node) × (first : List Sending) × (rest : List Sending) × (sends ≡ first ++ rest)
    × IsTicked id old first between × AreTicked ids between rest new

-- these calls got older by a tick, and the frames of the requests that they sent again are the first of these outputs
pub record SendsAgain (ids : List ℕ) (old : Node) (before : List Output) (new : Node)
    (after : List Output) : Type 0 where
  pub sends : List Sending
  pub ticked : AreTicked ids old sends new
  pub outputs : PutsOut old.keeper sends before after

-- the node, when the host has told which nodes it hears
abbrev pub hearing : Heard → Node → Node
hearing heard node = record node { peers = with_tick heard node.peers }

-- At a tick, the node notes which nodes its host hears, and open calls send requests again. Of a message, the node
-- hears the letter, if the message is admitted. Of all else, this says nothing.
abbrev pub DoesFirst : Option Arrival → (old : Node) → (before : List Output) → (new : Node) → (after : List Output) →
    Type 0
DoesFirst (Some (came.Tick heard)) old before new after =
    SendsAgain (keys old.desk.calls) (hearing heard old) before new after
DoesFirst (Some (came.Message sender frame)) old before new after =
    HearsIfRead sender (message_from frame) old.keeper before new.keeper after
DoesFirst arrival old before new after = ⊤

-- these are the first outputs
abbrev pub AreFirst : (first outputs : List Output) → Type 0
AreFirst first outputs = (more : List Output) × (outputs ≡ first ++ more)

-- The first outputs are those of what the node does first with what has come: at a tick, the frames of the requests
-- that the open calls send again; of a message, what comes of its letter. Then the node handles its letters to itself
-- and the next commands of its clients.
abbrev pub IsDoneFirst : Option Arrival → (old : Node) → List Output → Type 0
IsDoneFirst arrival old outputs =
    (middle : Node) × (first : List Output) × DoesFirst arrival old [] middle first × AreFirst first outputs
