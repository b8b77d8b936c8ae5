use Rattle.std.proofs.Common.{◌≡◌, take}
use Rattle.std.specs.List.{flat_map, zip}
use Rattle.exports.specs.Event.{ends_of}
use Rattle.exports.proofs.event.both_ends.Given as goal

abbrev pub invariant-loop-index : goal.invariant-loop-index
invariant-loop-index l = l.events.items ≡ flat_map (ends_of l.end) (take l.index (zip l.entries l.processes))
