use Rattle.node_store.proofs.FolderLemmas.{opened_unfailed}
use Rattle.node_store.proofs.folder.FolderLog.open.Goals as goal

pub returns-clause-unfailed : goal.returns-clause-unfailed
returns-clause-unfailed g c = opened_unfailed _ _ _ c.in_ok-file.ensures.unfailed c.in_ok-file.ensures.failure
