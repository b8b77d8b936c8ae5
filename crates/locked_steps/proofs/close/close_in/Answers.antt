use Rattle.std.proofs.Common.{◌≡◌, ◌∙◌, length, List, sym, ap, subst, Ok}
use Rattle.std.specs.List.{AllByRecursion}
use Rattle.cluster.specs.Cluster.{Cluster}
use Rattle.locked_steps.specs.Calls.{client_calls}
use Rattle.locked_steps.specs.Seats.{SeatState, IsRising, records_of}
use Rattle.locked_steps.specs.Closing.{Fit, IsAccounted, all_records}
use Rattle.locked_steps.proofs.FittingSeatLemmas.{accounted}
use Rattle.locked_steps.proofs.close.close_in.Goals as goal

pub returns-clause-accounted : goal.returns-clause-accounted
returns-clause-accounted g c =
    let n = c.booked.inside.seats in
    let h = c.booked.inside.cluster in
    let ss : List SeatState = c.args.seats.items in
    let value = c.as_slice.ensures.value in
    let f : Fit n h ss = rw (← value) (c.in-Ok.ensures.fit.0 c.if-not-fits.false) in
    let order : AllByRecursion (λ s. IsRising 0 (records_of s) s.floor) ss =
    rw (← value) (c.in-Ok.ensures.order (ap Ok c.if-not-fits.false)) in
    let count : client_calls h ≡ length (all_records ss) = sym c.booked.invariant.0 ∙ c.account.ensures in
    subst (λ (b : Cluster). IsAccounted b ss) c.booked.view_is (accounted n h ss f order count)
