use Rattle.std.proofs.Common.{false}
use Rattle.client.proofs.CallerRoundLemmas.{err_from, nothing_held, seat_stops}
use Rattle.locked_steps.specs.declared.handed_in.HandedIn.TheVariants.{Empty}
use Rattle.client.proofs.store.caller.SeatCaller.step.Goals as goal

pub returns-clause-refused : goal.returns-clause-refused
returns-clause-refused g c =
    err_from c.step_in.result _ _ _ c.step_in.ensures.cause (λ e cause.
    seat_stops g.C.Chooser.chooses g.L.StoreName.first c.args.booked.now c.args.turns c.args.chooser.now c.step_in.new.chooser
    c.args.self.now Empty false e (nothing_held g.L.StoreName.first c.args.self.now.pending) cause)
