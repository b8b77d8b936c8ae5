use Rattle.std.proofs.Common.{◌≡◌, map, take}
use Rattle.exports.specs.declared.lane.Lane.{Lane}
use Rattle.exports.proofs.plan.lanes_of.Given as goal

abbrev pub invariant-loop-entry : goal.invariant-loop-entry
invariant-loop-entry l = map (λ (lane : Lane). lane.entry) l.lanes.items ≡ take l.entry-index l.entries
