use Rattle.std.proofs.Common.{arith}
use Rattle.std.proofs.lemmas.Grind.{common_steps, elements}
use Rattle.locked_steps.proofs.fitting.check_records.Goals as goal

pub returns-then-not-branch-clause-stand : goal.returns-then-not-branch-clause-stand
returns-then-not-branch-clause-stand c = grind (arith, elements)

pub loop-record-preserved : goal.loop-record-preserved
loop-record-preserved c = grind (arith, common_steps)
