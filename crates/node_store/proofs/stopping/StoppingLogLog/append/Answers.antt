use Rattle.node_store.proofs.FolderLemmas.{always_tells}
use Rattle.node_store.proofs.stopping.StoppingLogLog.append.Goals as goal

pub returns-clause-failure : goal.returns-clause-failure
returns-clause-failure g c = always_tells c.append.result
