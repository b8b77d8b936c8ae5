use Rattle.std.proofs.Common.{ap, arith}
use Rattle.coding_pool.specs.declared.jobs.Known.{Known}
use Rattle.coding_pool.proofs.QueueRuleLemmas.{forks}
use Rattle.coding_pool.proofs.pool.hire.Goals as goal

pub another-requires-clause-rule : goal.another-requires-clause-rule
another-requires-clause-rule c =
    let p = ap (λ (v : Known). v.parts) c.loop-worker.invariant.view in forks _ _ (omega (arith, p))
