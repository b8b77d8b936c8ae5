use Rattle.std.proofs.Common.{sym, subst, rules}
use Rattle.std.specs.List.{AllByRecursion}
use Rattle.soak.specs.Made.{IsUnusedSeat}
use Rattle.soak.proofs.MadeCallLemmas.{new_seats-new}
use Rattle.soak.proofs.run.soak_named.Goals as goal

pub work_all-requires-clause-seats : goal.work_all-requires-clause-seats
work_all-requires-clause-seats g c κs within =
    subst (AllByRecursion IsUnusedSeat) (sym c.in_ok-store.ensures.seats) (new_seats-new c.args.plan.clients)

pub returns : goal.returns
returns g c = search rules
