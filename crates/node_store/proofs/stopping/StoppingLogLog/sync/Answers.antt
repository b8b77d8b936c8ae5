use Rattle.node_store.proofs.FolderLemmas.{always_tells, same_behind}
use Rattle.node_store.proofs.stopping.StoppingLogLog.sync.Goals as goal

pub returns-then-not-goes_on-clause-cut : goal.returns-then-not-goes_on-clause-cut
returns-then-not-goes_on-clause-cut g c = λ sound. same_behind _ _

pub returns-clause-failure : goal.returns-clause-failure
returns-clause-failure g c = always_tells c.sync.result
