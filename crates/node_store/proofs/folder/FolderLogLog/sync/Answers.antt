use Rattle.std.proofs.lemmas.Bool.{and_parts, or_left, or_right}
use Rattle.std.proofs.lemmas.Result.{err_from_is_err_and}
use Rattle.node_store.proofs.FolderLemmas.{cut_found, keeps_grow, synced_found, within_found}
use Rattle.node_store.proofs.folder.FolderLogLog.sync.Goals as goal

pub returns-in_err-sync_data-clause-within : goal.returns-in_err-sync_data-clause-within
returns-in_err-sync_data-clause-within g c =
    rw (← c.self.view_is)
    (λ sound. within_found (g.D.DiskFolder.other c.self.inside.folder) _ _ _ _ (keeps_grow _ _ c.sync_data.ensures.written)
    (c.sync_data.ensures.within (and_parts _ _ sound).0))

pub returns-in_err-sync_data-clause-cut : goal.returns-in_err-sync_data-clause-cut
returns-in_err-sync_data-clause-cut g c =
    rw (← c.self.view_is) (λ sound. cut_found (g.D.DiskFolder.other c.self.inside.folder) _ _ _ c.sync_data.ensures.cut)

pub returns-in_err-sync_folder-clause-cut : goal.returns-in_err-sync_folder-clause-cut
returns-in_err-sync_folder-clause-cut g c =
    rw (← c.self.view_is)
    (λ sound. synced_found (g.D.DiskFolder.other c.self.inside.folder) _ _ _ _ _ c.sync_data.ensures.written
    (c.in_ok-sync_data.ensures.all (and_parts _ _ sound).0) c.sync_folder.ensures.failed)

pub returns-in_ok-sync_folder-clause-cut : goal.returns-in_ok-sync_folder-clause-cut
returns-in_ok-sync_folder-clause-cut g c =
    rw (← c.self.view_is)
    (λ sound. synced_found (g.D.DiskFolder.other c.self.inside.folder) _ _ _ _ _ c.sync_data.ensures.written
    (c.in_ok-sync_data.ensures.all (and_parts _ _ sound).0) c.sync_folder.ensures.failed)

pub returns-in_err-sync_data-clause-failure : goal.returns-in_err-sync_data-clause-failure
returns-in_err-sync_data-clause-failure g c =
    let p = err_from_is_err_and c.from_residual.result c.from_residual.ensures.1 in
    rw (← c.self.view_is, p.1) (or_left _ _ c.in_err-sync_data.ensures.failure)

pub returns-in_err-sync_folder-clause-failure : goal.returns-in_err-sync_folder-clause-failure
returns-in_err-sync_folder-clause-failure g c =
    let residual = c.from_residual-in_err-sync_folder in
    let p = err_from_is_err_and residual.result residual.ensures.1 in
    rw (← c.self.view_is, p.1) (or_right _ _ c.in_err-sync_folder.ensures.failure)
