use Rattle.std.proofs.Common.{take}
use Rattle.std.specs.Fmt.{HasWritten, IsPlainFormatter}
use Rattle.std.specs.List.{flat_map}
use Rattle.exports.specs.CallLanes.{lane_text}
use Rattle.exports.proofs.call_lanes.CallLanesDisplay.fmt.Given as goal

abbrev pub invariant-loop-lane : goal.invariant-loop-lane
invariant-loop-lane g l = IsPlainFormatter l.initial.f
    → HasWritten g.W.Write.write_str_gives l.initial.f (flat_map (lane_text l.plan) (take l.lane-index l.plan.lanes.items)) l.f
