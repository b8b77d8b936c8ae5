use Rattle.std.proofs.Common.{arith}
use Rattle.std.proofs.lemmas.Grind.{common_steps}
use Rattle.decoder.proofs.sums.write_some.Goals as goal

pub returns-in-1 : goal.returns-in-1
returns-in-1 c = grind (arith, common_steps)

pub returns-in-2 : goal.returns-in-2
returns-in-2 c = grind (arith, common_steps)

pub returns-in-3 : goal.returns-in-3
returns-in-3 c = grind (arith, common_steps)

pub returns-in-4 : goal.returns-in-4
returns-in-4 c = grind (arith, common_steps)

pub returns-in-5 : goal.returns-in-5
returns-in-5 c = grind (arith, common_steps)

pub returns-in-6 : goal.returns-in-6
returns-in-6 c = grind (arith, common_steps)
