use Rattle.std.proofs.Common.{rules}
use Rattle.locked_steps.proofs.moves.has_move_in.Goals as goal

pub returns-clause-has : goal.returns-clause-has
returns-clause-has g c = search rules
