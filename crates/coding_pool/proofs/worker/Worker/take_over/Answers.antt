use Rattle.coding_pool.proofs.QueueRuleLemmas.{merges}
use Rattle.coding_pool.proofs.worker.Worker.take_over.Goals as goal

pub absorb-requires-clause-rule : goal.absorb-requires-clause-rule
absorb-requires-clause-rule c = merges _ _ _ _ c.requires.part
