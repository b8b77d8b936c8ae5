-- These are those of the names so far that match.
use Rattle.std.proofs.Common.{◌≡◌, take}
use Rattle.std.specs.List.{filter}
use Rattle.client_commands.specs.Patterns.{fits}
use Rattle.client_commands.proofs.patterns.names_of.Given as goal

abbrev pub invariant-loop-name : goal.invariant-loop-name
invariant-loop-name l = l.told.items ≡ filter (fits l.parts) (take l.name-index l.names)
