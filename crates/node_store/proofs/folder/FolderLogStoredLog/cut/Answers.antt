use Rattle.node_store.proofs.FolderLemmas.{loses_found, loses_nothing}
use Rattle.node_store.proofs.folder.FolderLogStoredLog.cut.Goals as goal

pub returns-in_err-length-clause-kept : goal.returns-in_err-length-clause-kept
returns-in_err-length-clause-kept g c = loses_nothing _ _

pub returns-then-length-count-clause-kept : goal.returns-then-length-count-clause-kept
returns-then-length-count-clause-kept g c = loses_nothing _ _

pub returns-in_err-cut-clause-kept : goal.returns-in_err-cut-clause-kept
returns-in_err-cut-clause-kept g c =
    rw (← c.self.view_is) (loses_found _ (g.D.DiskFolder.other c.self.inside.folder) _ _ c.cut.ensures.kept)

pub returns-clause-kept : goal.returns-clause-kept
returns-clause-kept g c =
    rw (← c.self.view_is) (loses_found _ (g.D.DiskFolder.other c.self.inside.folder) _ _ c.cut.ensures.kept)

pub returns-in_err-length-clause-left : goal.returns-in_err-length-clause-left
returns-in_err-length-clause-left g c = loses_nothing _ _

pub returns-then-length-count-clause-left : goal.returns-then-length-count-clause-left
returns-then-length-count-clause-left g c = loses_nothing _ _
