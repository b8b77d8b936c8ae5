use Rattle.std.proofs.Common.{rules}
use Rattle.locked_steps.proofs.moves.move_round_in.Goals as goal

pub returns-in_err-round-clause-cause : goal.returns-in_err-round-clause-cause
returns-in_err-round-clause-cause g c = search rules
