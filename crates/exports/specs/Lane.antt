-- The contracts that docs/trusted.md lists do not depend on this file; other contracts and proofs do.
-- Heights in the lane of a call, in tenths of a pixel.
use Rattle.std.specs.Prelude.{ℕ, ◌+◌}
use Rattle.exports.specs.declared.lane.Lane.{Lane}
use Rattle.exports.specs.declared.lane.TheConstants.{BAR_TOP, BASELINE}
use Rattle.std.specs.Io.Iter.{u64_saturate}

-- the baseline of the texts in a lane
abbrev pub baseline_of : Lane → ℕ
baseline_of lane = u64_saturate (lane.top + BASELINE)

-- the upper end of the mark with which a bar begins
abbrev pub bar_top_of : Lane → ℕ
bar_top_of lane = u64_saturate (lane.top + BAR_TOP)
