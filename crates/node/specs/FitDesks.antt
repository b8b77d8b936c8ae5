-- The contracts that docs/trusted.md lists do not depend on this file; other contracts and proofs do.
-- Desks of a node of which all commands that wait, and all open calls, have short names.
use Rattle.std.specs.Prelude.{◌≡◌, ⊤, ℕ, IfSome, Some}
use Rattle.std.specs.List.{AllByRecursion}
use Rattle.client_commands.specs.Reading.{command_at}
use Rattle.node_clients.specs.Calls.{call_under}
use Rattle.node_clients.specs.Connections.{asked, waiting_on}
use Rattle.node_clients.specs.Desk.{connection_of}
use Rattle.node_clients.specs.Services.{Service}
use Rattle.node_clients.specs.declared.desk.Desk.{Desk}
use Rattle.node_clients.specs.declared.next.Next.{Next}
use Rattle.node_clients.specs.declared.open_call.OpenCall.{OpenCall}
use Rattle.writable.specs.Keepers.{IsShortName}
use Rattle.node.specs.FitCommands.{IsFitDeletion, IsFitFound}

-- the name of an open call is short, and so are those of the DEL of which it is a write, if it is one
pub record IsFitOpenCall (call : OpenCall) : Type 0 where
  pub name : IsShortName call.name
  pub deletion : IfSome call.deletion IsFitDeletion

-- what waits on a connection asks for a command whose names are short, if it asks for one
abbrev pub IsFitNext : Next → Type 0
IsFitNext next = IsFitFound (asked next)

-- all open calls of a desk, and all that waits on its connections, are so
pub record IsFitDesk (desk : Desk) : Type 0 where
  pub calls : (id : ℕ) (call : OpenCall) → call_under desk.calls id ≡ Some call → IsFitOpenCall call
  pub waiting : (client : ℕ) → AllByRecursion IsFitNext (waiting_on (connection_of desk client))

-- a command that comes is one whose names are short, if it is one
abbrev pub IsFitService : Service → Type 0
IsFitService (Service.Arrives client command) = IsFitFound (command_at command)
IsFitService service = ⊤
