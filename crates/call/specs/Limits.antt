-- Whether the positions and tags that a call needs have successors that fit the machine's numbers.
use Rattle.std.specs.Prelude.{ℕ, ◌+◌, ◌^◌, Bool, true, ◌&&◌, nat_lt, List, Option, Some, None}
use Rattle.tag.specs.declared.tag.Tag.{Tag}
use Rattle.tag.specs.Tag.{later_tag}
use Rattle.bank.specs.declared.kind.Kind.{Kind}
use Rattle.mail.specs.declared.phase.Taken.{Taken}
use Rattle.record.specs.declared.call.CallKind.{CallKind}
use Rattle.record.specs.declared.call.CallKind.TheVariants.{Read, Write, Move}
use Rattle.record.specs.declared.stage.Stage.{Stage}
use Rattle.record.specs.declared.stage.Stage.TheVariants.{QueryFrom}
use Rattle.record.specs.PhaseOrder.{due, greatest_tag}
use Rattle.call.specs.StageLimits.{IsBelowLimit, HasNextTag}
use Rattle.call.specs.Call.{OpenCall, reached}

-- whether the position of the phase that is due has a successor that fits 32 bits
abbrev pub is_below_limit : Option (Kind × ℕ) → Bool
is_below_limit None = true
is_below_limit (Some asked) = nat_lt (asked.1 + 1) (2 ^ 32)

-- whether a call of this kind needs no next tag, or the greatest tag has one, whose number fits 64 bits
abbrev pub is_taggable : CallKind → (greatest : Tag) → Bool
is_taggable Read greatest = true
is_taggable (Write value) greatest = nat_lt (greatest.number + 1) (2 ^ 64)
is_taggable Move greatest = true

-- whether the stage is no query, or the greatest tag after these replies has a next tag if the call needs one
abbrev pub has_next_tag : CallKind → Stage → List Taken → Bool
has_next_tag kind (QueryFrom position last greatest shown_at) replies =
    is_taggable kind (later_tag greatest (greatest_tag replies))
has_next_tag kind _ replies = true

-- whether the numbers from which the reached stage is computed have successors that fit the machine's numbers
abbrev pub can_reach : OpenCall → Bool
can_reach call = is_below_limit (due call.stage) && has_next_tag call.kind call.stage call.phase.replies

-- whether `can_reach` holds, and the phase due at the reached stage, if any, has a position with a successor of 32
-- bits
abbrev pub is_within_limits : OpenCall → Bool
is_within_limits call = can_reach call && is_below_limit (due (reached call))

-- the numbers from which the reached stage is computed have successors that fit the machine's numbers
pub record CanReach (call : OpenCall) : Type 0 where
  pub room : IsBelowLimit call.stage
  pub tags : HasNextTag call.kind call.stage call.phase.replies

-- `CanReach` holds, and the phase due at the reached stage, if any, has a position with a successor of 32 bits
pub record IsWithinLimits (call : OpenCall) : Type 0 where
  pub stage : CanReach call
  pub due : IsBelowLimit (reached call)
