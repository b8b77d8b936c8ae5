-- The contracts that docs/trusted.md lists do not depend on this file; other contracts and proofs do.
-- Where steps are drawn, in tenths of a pixel from the left.
use Rattle.std.specs.Prelude.{ℕ, ◌+◌, ◌-◌, ◌*◌, ◌/◌, max, Option, Some, None}
use Rattle.exports.specs.declared.plan.Plan.{Plan}
use Rattle.exports.specs.declared.plan.TheConstants.{LEFT}
use Rattle.std.specs.Io.Iter.{u64_saturate}

-- where a step is drawn: the steps from the first to the last share the width of the time axis evenly
abbrev pub x_of : Plan → (step : ℕ) → ℕ
x_of plan step =
    u64_saturate (LEFT + u64_saturate ((step - plan.first) * plan.width) / max (plan.last - plan.first) 1)

-- the right edge of the time axis
abbrev pub right_of : Plan → ℕ
right_of plan = u64_saturate (LEFT + plan.width)

-- where the bar of a call ends: at the step of its answer, or at the right edge if the call is open
abbrev pub bar_end : Plan → Option ℕ → ℕ
bar_end plan None = right_of plan
bar_end plan (Some step) = x_of plan step
