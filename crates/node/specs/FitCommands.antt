-- The contracts that docs/trusted.md lists do not depend on this file; other contracts and proofs do.
-- Commands whose calls a node can begin: their names are short, and the layout of a move is fit.
use Rattle.std.specs.Prelude.{◌<◌, ◌^◌, ⊤, IfOk}
use Rattle.std.specs.List.{AllByRecursion}
use Rattle.client_commands.specs.Deletion.{Deletion, count_of}
use Rattle.client_commands.specs.Reading.{Found}
use Rattle.client_commands.specs.declared.command.Command.{Command}
use Rattle.client_commands.specs.declared.command.Command.TheVariants as ask
use Rattle.fitting.specs.Letters.{IsFitLayout}
use Rattle.writable.specs.Keepers.{IsShortName}

-- the names of a DEL are short, and their number has 64 bits
pub record IsFitDeletion (deletion : Deletion) : Type 0 where
  pub names : AllByRecursion IsShortName deletion.names
  pub count : count_of deletion < 2 ^ 64

-- the names of a command that begins a call are short, and the layout of a move is fit
abbrev pub IsFitCommand : Command → Type 0
IsFitCommand (ask.Read wanted name) = IsShortName name
IsFitCommand (ask.Set name value) = IsShortName name
IsFitCommand (ask.Delete deletion) = IsFitDeletion deletion
IsFitCommand (ask.Move name layout) = IsShortName name × IsFitLayout layout
IsFitCommand command = ⊤

-- what was found is a fault or such a command
abbrev pub IsFitFound : Found → Type 0
IsFitFound found = IfOk found IsFitCommand
