use Rattle.std.proofs.Common.{◌≡◌}
use Rattle.std.specs.Prelude.{IfOk, vec_len}
use Rattle.std.specs.List.{AllByRecursion}
use Rattle.soak.specs.Made.{IsUnusedSeat}
use Rattle.soak.proofs.crew.start_all.Given as goal

abbrev pub invariant-loop-seat : goal.invariant-loop-seat
invariant-loop-seat g l =
    AllByRecursion IsUnusedSeat l.seats.items
    × AllByRecursion (λ client. IfOk client (λ handle. handle.promise.0 ≡ l.plan.calls)) l.started.items

abbrev pub decreases-loop-seat : goal.decreases-loop-seat
decreases-loop-seat g l = vec_len l.seats
