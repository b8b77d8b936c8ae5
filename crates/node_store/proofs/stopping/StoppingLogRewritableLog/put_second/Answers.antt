use Rattle.node_store.proofs.FolderLemmas.{always_tells_exchange}
use Rattle.node_store.proofs.stopping.StoppingLogRewritableLog.put_second.Goals as goal

pub returns-clause-failure : goal.returns-clause-failure
returns-clause-failure g c = always_tells_exchange c.put_second.result
