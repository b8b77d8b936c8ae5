use Rattle.std.proofs.Common.{rules}
use Rattle.locked_steps.proofs.seat.Seat.abandon.Goals as goal

pub returns-in_default : goal.returns-in_default
returns-in_default g c = search rules
