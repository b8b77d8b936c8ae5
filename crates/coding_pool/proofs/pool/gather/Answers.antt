use Rattle.std.proofs.Common.{arith}
use Rattle.std.proofs.lemmas.Grind.{elements}
use Rattle.coding_pool.proofs.pool.gather.Goals as goal

pub take_over-requires-clause-other : goal.take_over-requires-clause-other
take_over-requires-clause-other c = grind (arith, elements)

pub loop-answer-preserved : goal.loop-answer-preserved
loop-answer-preserved c = grind (arith, elements)
