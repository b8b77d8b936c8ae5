-- The contracts that docs/trusted.md lists do not depend on this file; other contracts and proofs do.
-- Readings of the sequence of layouts, and the stage of a call whose reading has come this far.
use Rattle.std.specs.Prelude.{ℕ, suc, Bool, true, false, Option, Some, None}
use Rattle.tag.specs.declared.tag.Tag.{Tag}
use Rattle.bank.specs.declared.status.Status.{Status}
use Rattle.bank.specs.declared.status.Status.TheVariants.{Unset, Pending, Final}
use Rattle.bank.specs.declared.kind.Kind.{Kind}
use Rattle.bank.specs.declared.kind.Kind.TheVariants as kind
use Rattle.record.specs.declared.stage.Stage.{Stage}
use Rattle.record.specs.declared.stage.Stage.TheVariants as stage
use Rattle.record.specs.PhaseOrder.{after_next, after_again}
use Rattle.record.specs.Grammar.{finalized_after}
use Rattle.call.specs.declared.reading.Reading.{Reading}
use Rattle.call.specs.declared.reading.Reading.TheVariants.{Next, Spread, Ended}

-- whether the reading next asks for the pointers of a position
abbrev pub is_next : Reading → Bool
is_next (Next position finalized) = true
is_next (Spread position finalized status) = false
is_next (Ended last finalized) = false

-- whether the reading next spreads the status that it found
abbrev pub is_spread : Reading → Bool
is_spread (Next position finalized) = false
is_spread (Spread position finalized status) = true
is_spread (Ended last finalized) = false

-- the position at which the reading is
abbrev pub position_of : Reading → ℕ
position_of (Next position finalized) = position
position_of (Spread position finalized status) = position
position_of (Ended last finalized) = last

-- the last position known to be finalized
abbrev pub finalized_of : Reading → ℕ
finalized_of (Next position finalized) = finalized
finalized_of (Spread position finalized status) = finalized
finalized_of (Ended last finalized) = finalized

-- the status that the reading spreads next, or unset if it spreads none
abbrev pub spread_status : Reading → Status
spread_status (Next position finalized) = Unset
spread_status (Spread position finalized status) = status
spread_status (Ended last finalized) = Unset

-- the last position, once the reading has ended
abbrev pub last_of : Reading → Option ℕ
last_of (Next position finalized) = None
last_of (Spread position finalized status) = None
last_of (Ended last finalized) = Some last

-- the phase that is next, with its position, or none if the reading has ended
abbrev pub next_phase_of : Reading → Option (Kind × ℕ)
next_phase_of (Next position finalized) = Some (kind.Next, position)
next_phase_of (Spread position finalized status) = Some (kind.Spread status, position)
next_phase_of (Ended last finalized) = None

-- the reading after this status was found at a position: unset ends it there, and any other status is spread first
abbrev pub found_at : Status → (position finalized : ℕ) → Reading
found_at Unset position finalized = Ended position finalized
found_at Pending position finalized = Spread position finalized Pending
found_at Final position finalized = Spread position finalized Final

-- the reading after it found this status, if it was asking for pointers
abbrev pub found_by : Reading → Status → Reading
found_by (Next position finalized) status = found_at status position finalized
found_by (Spread position finalized found) status = Spread position finalized found
found_by (Ended last finalized) status = Ended last finalized

-- the reading after it spread its status: it goes on at the next position, which is finalized if the status is final
abbrev pub spread_by : Reading → Reading
spread_by (Next position finalized) = Next position finalized
spread_by (Spread position finalized status) = Next (suc position) (finalized_after status position finalized)
spread_by (Ended last finalized) = Ended last finalized

-- the stage of a call whose first reading has come this far; after the reading come the queries
abbrev pub first_of : Reading → Stage
first_of (Next position finalized) = stage.ReadNext position finalized
first_of (Spread position finalized status) = stage.ReadSpread position finalized status
first_of (Ended last finalized) = after_next Unset last finalized

-- the stage of a call whose later reading, from `last` on, has come this far; then the call ends, or puts the tag again
abbrev pub again_of : (last : ℕ) → Tag → Reading → Stage
again_of last tag (Next position finalized) = stage.AgainNext last position tag
again_of last tag (Spread position finalized status) = stage.AgainSpread last position tag status
again_of last tag (Ended end finalized) = after_again Unset last end tag
