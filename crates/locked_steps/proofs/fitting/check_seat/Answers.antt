use Rattle.std.proofs.Common.{arith}
use Rattle.std.proofs.lemmas.Grind.{elements}
use Rattle.locked_steps.proofs.fitting.check_seat.Goals as goal

pub returns-then-not-branch-clause-stand : goal.returns-then-not-branch-clause-stand
returns-then-not-branch-clause-stand g c = grind (arith, elements)

pub returns-then-not-branch-2-clause-stand : goal.returns-then-not-branch-2-clause-stand
returns-then-not-branch-2-clause-stand g c = grind (arith, elements)

pub returns-in_ok-push-clause-stand : goal.returns-in_ok-push-clause-stand
returns-in_ok-push-clause-stand g c = grind (arith, elements)
