use Rattle.node_store.proofs.FolderLemmas.{loses_nothing}
use Rattle.node_store.proofs.stopping.StoppingLogStoredLog.cut.Goals as goal

pub returns-then-not-goes_on-clause-kept : goal.returns-then-not-goes_on-clause-kept
returns-then-not-goes_on-clause-kept g c = loses_nothing _ _

pub returns-then-not-goes_on-clause-left : goal.returns-then-not-goes_on-clause-left
returns-then-not-goes_on-clause-left g c = loses_nothing _ _
