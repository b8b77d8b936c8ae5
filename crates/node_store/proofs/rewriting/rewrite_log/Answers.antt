use Rattle.std.proofs.Common.{rules}
use Rattle.std.proofs.lemmas.Result.{err_from_is_err_and}
use Rattle.node_store.proofs.FolderLemmas.{exchange_unfailed}
use Rattle.node_store.proofs.rewriting.rewrite_log.Goals as goal

pub returns-in-Err-clause-kept : goal.returns-in-Err-clause-kept
returns-in-Err-clause-kept g c = search rules

pub returns-in_err-put_second-in-Ok-clause-failure : goal.returns-in_err-put_second-in-Ok-clause-failure
returns-in_err-put_second-in-Ok-clause-failure g c =
    let p = err_from_is_err_and c.from_residual.result c.from_residual.ensures.1 in
    rw p.1 c.in_err-put_second-in-Ok.ensures.failure

pub returns-in_ok-put_second-in-Ok-clause-failure : goal.returns-in_ok-put_second-in-Ok-clause-failure
returns-in_ok-put_second-in-Ok-clause-failure g c =
    exchange_unfailed _ _ _ _ c.write_second.ensures.failure c.in-Ok.ensures.unfailed c.in_ok-put_second-in-Ok.ensures.failure
