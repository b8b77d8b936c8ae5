-- The contracts that docs/trusted.md lists do not depend on this file; other contracts and proofs do.
-- Which commands of clients a node can begin.
use Rattle.std.specs.Prelude.{◌≤◌, length}
use Rattle.client_commands.specs.Reading.{command_at}
use Rattle.frames.specs.declared.limits.TheConstants.{MOST_STRINGS}
use Rattle.node.specs.FitCommands.{IsFitFound}
use Rattle.node_strings.specs.Strings.{Strings}

-- The law

-- what is read from the strings of a client's frame is a fault or such a command
abbrev pub ReadCommandsAreFit : Type 0
ReadCommandsAreFit = (strings : Strings) → length strings ≤ MOST_STRINGS → IsFitFound (command_at strings)
