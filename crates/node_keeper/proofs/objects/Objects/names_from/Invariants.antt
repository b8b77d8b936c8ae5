-- These are the names of the places so far.
use Rattle.std.proofs.Common.{◌≡◌, drop, take}
use Rattle.node_keeper.specs.Objects.{heard_names}
use Rattle.node_keeper.specs.Written.{written_among}
use Rattle.node_keeper.proofs.objects.Objects.names_from.Given as goal

abbrev pub invariant-loop-step : goal.invariant-loop-step
invariant-loop-step l = l.names.items ≡ written_among l.self (take l.step (drop l.first (heard_names l.self)))
