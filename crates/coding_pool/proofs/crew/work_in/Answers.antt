use Rattle.std.proofs.Common.{arith}
use Rattle.std.proofs.lemmas.Grind.{elements}
use Rattle.coding_pool.proofs.crew.work_in.Goals as goal

pub loop-worker-preserved-in-Ok : goal.loop-worker-preserved-in-Ok
loop-worker-preserved-in-Ok g c = grind (arith, elements)

pub loop-worker-preserved : goal.loop-worker-preserved
loop-worker-preserved g c = grind (arith, elements)

pub returns-clause-answers : goal.returns-clause-answers
returns-clause-answers g c =
    c.join_all.ensures.answers c.args.errand c.loop-worker.invariant.started c.loop-worker.invariant.answers
