use Rattle.client.proofs.CallerRoundLemmas.{err_from, seat_stops}
use Rattle.client.proofs.store.caller.SeatCaller.round.Goals as goal

pub returns-clause-refused : goal.returns-clause-refused
returns-clause-refused g c =
    err_from c.round_in.result _ _ _ c.round_in.ensures.cause (λ e cause.
    seat_stops g.C.Chooser.chooses g.L.StoreName.first c.args.booked.now c.args.turns c.args.chooser.now c.round_in.new.chooser
    c.args.self.now c.args.hand c.args.asks_again e c.requires cause)
