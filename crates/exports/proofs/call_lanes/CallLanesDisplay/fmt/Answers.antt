use Rattle.std.proofs.Common.{◌≡◌, ◌<◌, List, length, get_or, sym, subst, rules}
use Rattle.std.proofs.Output.{has_written_append, has_written_of_eq}
use Rattle.exports.specs.declared.lane.Lane.{Lane}
use Rattle.exports.specs.CallLanes.{lane_text}
use Rattle.printing.proofs.FlattenedListLemmas.{flat_map-take_item}
use Rattle.exports.proofs.call_lanes.CallLanesDisplay.fmt.Goals as goal

pub loop-lane-preserved : goal.loop-lane-preserved
loop-lane-preserved g c = λ plain.
    let plan = c.args.self.now.0.now in
    let i = c.loop-lane.lane-index in
    let lane = c.lane-item.result in
    let same = c.deref-lane-items.ensures.value in
    let is = subst (λ (ls : List Lane). lane ≡ get_or ls i lane) same c.lane-item.is in
    let below = subst (λ (ls : List Lane). i < length ls) same c.loop-lane-test.true in
    has_written_of_eq _ _ _ _ _ (sym (flat_map-take_item (lane_text plan) plan.lanes.items i lane below is))
    (has_written_append _ _ _ _ _ _ (c.loop-lane.invariant plain) (search rules))
