use Rattle.std.proofs.Common.{◌∙◌}
use Rattle.std.proofs.lemmas.Bool.{or_right}
use Rattle.std.proofs.lemmas.Result.{err_from_is_err_and}
use Rattle.node_store.proofs.FolderLemmas.{exchanged_unfailed}
use Rattle.node_store.proofs.folder.FolderLogRewritableLog.put_second.Goals as goal

pub returns-in_err-rename_second-clause-failure : goal.returns-in_err-rename_second-clause-failure
returns-in_err-rename_second-clause-failure g c =
    let p = err_from_is_err_and c.from_residual.result c.from_residual.ensures.1 in
    rw (← c.self.view_is, p.1) (or_right _ _ c.in_err-rename_second.ensures.failure)

pub returns-in_err-sync_folder-clause-failure : goal.returns-in_err-sync_folder-clause-failure
returns-in_err-sync_folder-clause-failure g c =
    let residual = c.from_residual-in_err-sync_folder in
    let p = err_from_is_err_and residual.result residual.ensures.1 in
    rw (← c.self.view_is, p.1) (or_right _ _ c.in_err-sync_folder.ensures.failure)

pub returns-clause-failure : goal.returns-clause-failure
returns-clause-failure g c =
    rw (← c.self.view_is)
    (exchanged_unfailed _ _ _ _ (c.in_ok-sync_folder.ensures.failure ∙ c.in_ok-rename_second.ensures.failure))
