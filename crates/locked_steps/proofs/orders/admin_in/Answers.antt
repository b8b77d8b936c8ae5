use Rattle.std.proofs.Common.{rules}
use Rattle.locked_steps.proofs.orders.admin_in.Goals as goal

pub invariant_of-booked-2 : goal.invariant_of-booked-2
invariant_of-booked-2 g c = search rules
