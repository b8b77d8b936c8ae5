use Rattle.std.proofs.Common.{◌≡◌, true, false, rules}
use Rattle.locked_steps.specs.Orders.{has_pending_move}
use Rattle.locked_steps.specs.declared.handed_in.HandedIn.TheVariants.{Empty}
use Rattle.client.proofs.CallerRoundLemmas.{err_from, move_stops, no_move_held}
use Rattle.client.proofs.store.caller.AdminCaller.step.Goals as goal

pub returns-then-has_move_in-clause-refused : goal.returns-then-has_move_in-clause-refused
returns-then-has_move_in-clause-refused g c =
    let has : has_pending_move c.args.booked.now c.args.self.now.moving ≡ true = search rules in
    err_from c.move_step_in.result _ _ _ c.move_step_in.ensures.cause (λ e cause.
    move_stops g.C.Chooser.chooses g.L.StoreName.first c.args.booked.now c.args.turns c.args.chooser.now c.move_step_in.new.chooser
    c.args.self.now.moving Empty false e (no_move_held g.L.StoreName.first c.args.self.now.moving) has cause)
