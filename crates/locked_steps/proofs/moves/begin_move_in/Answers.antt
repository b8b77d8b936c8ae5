use Rattle.std.proofs.Common.{rules}
use Rattle.locked_steps.proofs.moves.begin_move_in.Goals as goal

pub returns-in_err-hold-clause-cause : goal.returns-in_err-hold-clause-cause
returns-in_err-hold-clause-cause g c = search rules

pub returns-clause-admin : goal.returns-clause-admin
returns-clause-admin g c = search rules
