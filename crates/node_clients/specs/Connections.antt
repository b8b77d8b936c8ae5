-- What waits on the connections of clients, and what the connections are doing.
use Rattle.std.specs.Prelude.{◌≡◌, Bool, true, false, List, [], ◌∷◌, Option, Some, None, Ok}
use Rattle.client_commands.specs.Reading.{Found, command_at}
use Rattle.client_commands.specs.declared.command.Command.{Command}
use Rattle.client_commands.specs.declared.command.Command.TheVariants as ask
use Rattle.client_commands.specs.declared.command.Wanted.TheVariants as wants
use Rattle.node_clients.specs.declared.connection.Connection.{Connection}
use Rattle.node_clients.specs.declared.connection.State.{State}
use Rattle.node_clients.specs.declared.connection.State.TheVariants.{Idle, Busy, Quit}
use Rattle.node_clients.specs.declared.next.Next.{Next}
use Rattle.node_clients.specs.declared.next.Next.TheVariants as next
use Rattle.node_clients.specs.declared.rest.Rest.{Rest}
use Rattle.node_clients.specs.declared.rest.Rest.TheVariants as rests

-- the command with which a node goes on with what is left of a command: the next write of a DEL, or a read, of whose
-- value the client wants nothing
abbrev pub rest_command : Rest → Command
rest_command (rests.Deletes deletion) = ask.Delete deletion
rest_command (rests.Confirms name) = ask.Read wants.Nothing name

-- the command for which the next thing to be done asks: that of a frame that came, or that of what is left
abbrev pub asked : Next → Found
asked (next.Came frame) = command_at frame
asked (next.Rest rest) = Ok (rest_command rest)

-- what waits on a connection, if there is one
abbrev pub waiting_on : Option Connection → List Next
waiting_on None = []
waiting_on (Some connection) = connection.waiting.items

-- what a connection is doing; a connection that is not there is idle
abbrev pub doing : Option Connection → State
doing None = Idle
doing (Some connection) = connection.state

-- whether a connection in this state, on which these commands wait, gives the next one
abbrev pub gives_next_of : State → List Next → Bool
gives_next_of Idle [] = false
gives_next_of Idle (command ∷ waiting) = true
gives_next_of Busy waiting = false
gives_next_of Quit waiting = false

-- whether a connection is idle and a command waits
abbrev pub gives_next : Connection → Bool
gives_next connection = gives_next_of connection.state connection.waiting.items

-- whether there is a connection, it is idle, and a command waits
abbrev pub has_next : Option Connection → Bool
has_next None = false
has_next (Some connection) = gives_next connection

-- How a connection changes when its next command is taken: it gives the first command that waits, and is then busy. If
-- it is not idle, or no command waits, it gives none and does not change.
abbrev pub TakesNext : Connection → Connection → Option Next → Type 0
TakesNext old new (Some command) =
    (old.state ≡ Idle) × (old.waiting.items ≡ command ∷ new.waiting.items) × (new.state ≡ Busy)
TakesNext old new None =
    ((old.state ≡ Idle) → old.waiting.items ≡ []) × (new.waiting.items ≡ old.waiting.items) × (new.state ≡ old.state)

-- how a connection changes when its next command is taken; a missing one counts as idle, without waiting commands
abbrev pub TakesNextAt : Option Connection → Option Connection → Option Next → Type 0
TakesNextAt old new (Some command) =
    (doing old ≡ Idle) × (waiting_on old ≡ command ∷ waiting_on new) × (doing new ≡ Busy)
TakesNextAt old new None =
    ((doing old ≡ Idle) → waiting_on old ≡ []) × (waiting_on new ≡ waiting_on old) × (doing new ≡ doing old)
