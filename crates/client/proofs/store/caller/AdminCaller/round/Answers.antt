use Rattle.std.proofs.Common.{◌≡◌, true, rules}
use Rattle.locked_steps.specs.Orders.{has_pending_move}
use Rattle.client.proofs.CallerRoundLemmas.{err_from, move_stops}
use Rattle.client.proofs.store.caller.AdminCaller.round.Goals as goal

pub returns-clause-refused : goal.returns-clause-refused
returns-clause-refused g c =
    let has : has_pending_move c.args.booked.now c.args.self.now.moving ≡ true = search rules in
    err_from c.move_round_in.result _ _ _ c.move_round_in.ensures.cause (λ e cause.
    move_stops g.C.Chooser.chooses g.L.StoreName.first c.args.booked.now c.args.turns c.args.chooser.now c.move_round_in.new.chooser
    c.args.self.now.moving c.args.hand c.args.asks_again e c.requires has cause)
