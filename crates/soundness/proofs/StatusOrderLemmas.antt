-- The order of statuses as numbers.
use Rattle.std.proofs.Common.{ℕ, ◌≤◌, arith}
use Rattle.bank.specs.declared.status.Status.{Status}
use Rattle.bank.specs.declared.status.Status.TheVariants.{Unset, Pending, Final}
use Rattle.record.specs.PhaseOrder.{later_status}

-- unset, pending, final
abbrev pub rank : Status → ℕ
rank Unset = 0
rank Pending = 1
rank Final = 2

pub rank-later_left : (s t : Status) → rank s ≤ rank (later_status s t)
rank-later_left s t = grind arith

pub rank-later_right : (s t : Status) → rank t ≤ rank (later_status s t)
rank-later_right s t = grind arith
