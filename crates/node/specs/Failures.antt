-- The contracts that docs/trusted.md lists do not depend on this file; other contracts and proofs do.
-- Why a node cannot go on with a frame.
use Rattle.std.specs.Prelude.{◌≡◌, ◌⊎◌, ⊤, ℕ, Bool, true, false, List, [], ◌∷◌, ◌++◌}
use Rattle.std.specs.Prelude.{Option, None, Some, Result, Ok, Err}
use Rattle.indexmap.specs.IndexMap.{index_map_len, keys}
use Rattle.deeds.specs.Named.{NamedLetter as Named}
use Rattle.client_commands.specs.Deletion.{name_now}
use Rattle.client_commands.specs.Reading.{Found}
use Rattle.client_commands.specs.declared.answer.Answer.{Answer}
use Rattle.client_commands.specs.declared.command.Command.{Command}
use Rattle.client_commands.specs.declared.command.Command.TheVariants as ask
use Rattle.letter.specs.declared.letter.NamedLetter.{NamedLetter}
use Rattle.local_object.specs.declared.progress.Ended.{Ended}
use Rattle.node_messages.specs.Reading.{message_from}
use Rattle.node_messages.specs.declared.error.Fault.{Fault}
use Rattle.node_messages.specs.declared.message.NodeMessage.{NodeMessage}
use Rattle.node_strings.specs.Arrival.{arrival_at}
use Rattle.node_strings.specs.Strings.{Strings}
use Rattle.node_strings.specs.declared.arrival.Arrival.{Arrival}
use Rattle.node_strings.specs.declared.arrival.Arrival.TheVariants as came
use Rattle.node_effects.specs.declared.error.NodeError.{NodeError}
use Rattle.node_effects.specs.declared.error.NodeError.TheVariants as errors
use Rattle.node_effects.specs.declared.work.Work.{Work}
use Rattle.node_clients.specs.Answers.{CanBeSent}
use Rattle.node_clients.specs.Calls.{call_answer, call_under}
use Rattle.node_clients.specs.Connections.{asked, doing, waiting_on}
use Rattle.node_clients.specs.declared.connection.State.TheVariants.{Idle}
use Rattle.node_clients.specs.Desk.{connection_of}
use Rattle.node_clients.specs.declared.counts.Counts.{Counts}
use Rattle.node_clients.specs.declared.next.Next.{Next}
use Rattle.node_clients.specs.declared.next.Next.TheVariants.{Came}
use Rattle.node_clients.specs.declared.open_call.Aged.{Aged}
use Rattle.node_keeper.specs.Beginning.{Beginning, CanBegin, moving_call, reading_call, writing_call}
use Rattle.node_keeper.specs.Delivering.{CanDeliver, DeliversLetter}
use Rattle.node_keeper.specs.NextIds.{next_id_of}
use Rattle.node_keeper.specs.Resending.{CanResend}
use Rattle.node_keeper.specs.Sendings.{Sending}
use Rattle.node_keeper.specs.declared.delivered.Delivered.TheVariants as delivered
use Rattle.node_keeper.specs.declared.keeper.Keeper.{Keeper}
use Rattle.node.specs.AtOnce.{IsPlainHere}
use Rattle.node.specs.BegunCalls.{wants_nothing}
use Rattle.node.specs.FitNodes.{CameInBytes, IsFitAtWork, IsFitNode}
use Rattle.node.specs.Frames.{is_admitted, letters_in, sender_or}
use Rattle.node.specs.Handles.{HasActed}
use Rattle.node.specs.Replies.{IsPlainReply}
use Rattle.node.specs.Serving.{ServedSince}
use Rattle.node.specs.Ticks.{AreTicked, aged_at, hearing}
use Rattle.node.specs.declared.node.Node.{Node}
use Rattle.node.specs.declared.peers.Peers.{Peers}

-- why a part of a node fails: memory is refused, which may always be; a call needs an id, and there is none; or
-- something that has to be written does not fit. An object's refusal is never a reason.
abbrev pub IsFailure : (ends fits : Type 0) → NodeError → Type 0
IsFailure ends fits errors.NoMemory = ⊤
IsFailure ends fits errors.NoMoreIds = ends
IsFailure ends fits errors.Unwritable = fits → ⊥
IsFailure ends fits (errors.Refused refusal) = ⊥

-- Commands

-- everything that has to be written when this call begins with the next id can be written
abbrev pub CanBeginNext : Beginning → Keeper → Type 0
CanBeginNext call keeper = (id : ℕ) → next_id_of keeper.ids ≡ Some id → CanBegin call id keeper

-- the command begins a call, so it needs an id
abbrev pub NeedsId : Command → Type 0
NeedsId (ask.Read wanted name) = ⊤
NeedsId (ask.Set name value) = ⊤
NeedsId (ask.Delete deletion) = ⊤
NeedsId (ask.Move name layout) = ⊤
NeedsId command = ⊥

-- everything that has to be written for a command of a client can be written: what its call needs, if it begins one,
-- and otherwise the plain answer
abbrev pub CanObey : Keeper → Peers → (calls : ℕ) → Counts → (client : ℕ) → Command → Type 0
CanObey keeper peers calls counts client (ask.Read wanted name) =
    CanBeginNext (reading_call name (wants_nothing wanted)) keeper
CanObey keeper peers calls counts client (ask.Set name value) = CanBeginNext (writing_call name value) keeper
CanObey keeper peers calls counts client (ask.Delete deletion) =
    CanBeginNext (writing_call (name_now deletion) []) keeper
CanObey keeper peers calls counts client (ask.Move name layout) = CanBeginNext (moving_call name layout) keeper
CanObey keeper peers calls counts client ask.Quit = ⊤
CanObey keeper peers calls counts client command = (answer : Answer) → IsPlainReply client command answer →
    IsPlainHere keeper peers calls counts command answer → CanBeSent answer

-- why a node cannot go on with what a client asks, if that is a command; a fault can always be told
abbrev pub FailsAsked : Node → (client : ℕ) → Found → NodeError → Type 0
FailsAsked node client (Err fault) error = error ≡ errors.NoMemory
FailsAsked node client (Ok command) error = IsFailure (NeedsId command × (next_id_of node.keeper.ids ≡ None))
    (CanObey node.keeper node.peers (index_map_len node.desk.calls) node.desk.counts client command) error

-- why a node cannot go on with the first of these commands, which wait on the connection of a client
abbrev pub FailsFirst : Node → (client : ℕ) → List Next → NodeError → Type 0
FailsFirst node client [] error = ⊥
FailsFirst node client (next ∷ waiting) error = FailsAsked node client (asked next) error

-- why a node cannot go on with the next command of a client, whose connection is idle
abbrev pub FailsNext : Node → (client : ℕ) → NodeError → Type 0
FailsNext node client error = (doing (connection_of node.desk client) ≡ Idle)
    × FailsFirst node client (waiting_on (connection_of node.desk client)) error

-- Letters

-- everything that has to be written for a letter of the node of number `sender` can be written: what the log gets, the
-- letters that are sent for it, and the answer to the client of a call that ends by it
abbrev pub CanHear : (sender : ℕ) → NamedLetter → Node → Type 0
CanHear sender it node = CanDeliver sender it node.keeper
    × ((before after : Work) (new : Keeper) (ended : Ended) →
    DeliversLetter sender it node.keeper before new after (delivered.Ended ended) →
    CanBeSent (call_answer (call_under node.desk.calls ended.id) ended))

-- why a node cannot go on with a letter
abbrev pub FailsLetter : (sender : ℕ) → NamedLetter → Node → NodeError → Type 0
FailsLetter sender it node error = IsFailure ⊥ (CanHear sender it node) error

-- why a node cannot go on with a message that is admitted or is not; one that is not may need memory
abbrev pub FailsIf : (admitted : Bool) → (sender : ℕ) → NamedLetter → Node → NodeError → Type 0
FailsIf true sender it node error = FailsLetter sender it node error
FailsIf false sender it node error = error ≡ errors.NoMemory

-- why a node cannot go on with a message
abbrev pub FailsMessage : (sender : ℕ) → NodeMessage → Node → NodeError → Type 0
FailsMessage sender message node error =
    FailsIf (is_admitted node.keeper sender message) sender message.named node error

-- why a node cannot go on with what was read of a node
abbrev pub FailsRead : (sender : ℕ) → Result NodeMessage Fault → Node → NodeError → Type 0
FailsRead sender (Ok message) node error = FailsMessage sender message node error
FailsRead sender (Err fault) node error = error ≡ errors.NoMemory

-- Ticks

-- the requests that a call sends again at a tick, if it does, can be sent
abbrev pub CanAge : Keeper → (id : ℕ) → Option Aged → Type 0
CanAge keeper id None = ⊤
CanAge keeper id (Some aged) = CanResend aged.name id aged.asks_all keeper

-- why a node cannot go on with the call of this id at a tick
abbrev pub FailsAged : (id : ℕ) → Node → NodeError → Type 0
FailsAged id node error = IsFailure ⊥ (CanAge node.keeper id (aged_at node id)) error

-- why a node cannot go on with a tick for these calls: the first of them got older, and it cannot go on with the next
-- one
pub record FailsTicks (ids : List ℕ) (old : Node) (error : NodeError) : Type 0 where
  pub first : List ℕ
  pub id : ℕ
  pub rest : List ℕ
  pub all : ids ≡ first ++ id ∷ rest
  pub middle : Node
  pub sends : List Sending
  pub ticked : AreTicked first old sends middle
  pub fails : FailsAged id middle error

-- Frames

-- why a node cannot go on with what has come; what is dropped, and the end of a connection, are no reason
abbrev pub FailsArrival : Option Arrival → Node → NodeError → Type 0
FailsArrival None node error = ⊥
FailsArrival (Some (came.Command client frame)) node error = (error ≡ errors.NoMemory)
    ⊎ ((doing (connection_of node.desk client) ≡ Idle)
    × FailsFirst node client (waiting_on (connection_of node.desk client) ++ Came frame ∷ []) error)
FailsArrival (Some (came.Left client)) node error = ⊥
FailsArrival (Some (came.Message sender frame)) node error = FailsRead sender (message_from frame) node error
FailsArrival (Some (came.Tick heard)) node error =
    (error ≡ errors.NoMemory) ⊎ FailsTicks (keys node.desk.calls) (hearing heard node) error

-- why a node cannot go on with its oldest letter to itself, or else with the next command of the connection that has
-- been due longest
abbrev pub FailsStep : Node → (own : List NamedLetter) → (due : List ℕ) → NodeError → Type 0
FailsStep node (it ∷ own) due error = FailsLetter node.keeper.ids.node it node error
FailsStep node [] (client ∷ due) error = FailsNext node client error
FailsStep node [] [] error = ⊥

-- Why a node cannot go on with a frame when it has done what came: it did deeds and services up to some state, and it
-- cannot do the next step from there. The services say which ids were used meanwhile. If the node was fit, and what
-- came did so in a frame of bytes, it is fit in that state, and so are its letters to itself that wait.
pub record FailsBehind (asker : ℕ) (got : List Named) (arrival : Option Arrival) (first : Node)
    (error : NodeError) : Type 0 where
  pub middle : Node
  pub work : Work
  pub acted : HasActed asker got first.keeper middle.keeper work
  pub served : ServedSince arrival first middle work.to_clients.items work.notices.items work.outputs.items
  pub fit : CameInBytes arrival → IsFitNode first → IsFitAtWork middle work
  pub fails : FailsStep middle work.own.items work.due.items error

-- why a node cannot go on with what has come, or later
abbrev pub FailsWith : Node → Strings → NodeError → Type 0
FailsWith node frame error = FailsArrival (arrival_at frame) node error
    ⊎ FailsBehind (sender_or node.keeper.ids.node (arrival_at frame)) (letters_in node.keeper frame) (arrival_at frame)
    node error

-- With what a node may fail at a frame. Memory may always be refused. The other errors have a reason, which the node
-- meets with what has come, or later, with a letter to itself or a client's next command. An object's refusal is told
-- to the client, and never makes the node fail.
abbrev pub Fails : Node → Strings → NodeError → Type 0
Fails node frame errors.NoMemory = ⊤
Fails node frame errors.NoMoreIds = FailsWith node frame errors.NoMoreIds
Fails node frame errors.Unwritable = FailsWith node frame errors.Unwritable
Fails node frame (errors.Refused refusal) = ⊥
