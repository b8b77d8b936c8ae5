use Rattle.std.proofs.Common.{rules}
use Rattle.locked_steps.proofs.seat.Seat.make_room.Goals as goal

pub returns-then-is_pending-clause-same : goal.returns-then-is_pending-clause-same
returns-then-is_pending-clause-same g c = search rules
