use Rattle.std.proofs.Common.{arith, ◌∙◌}
use Rattle.casd.proofs.CutLemmas.{cut_failed, sync_failed}
use Rattle.casd.proofs.LogFaultLemmas.{told_failed, told_same}
use Rattle.casd.proofs.opening.cut_behind.Goals as goal

pub returns-in-Err-clause-cut : goal.returns-in-Err-clause-cut
returns-in-Err-clause-cut g c = cut_failed _ _ _ _ c.cut.ensures.kept

pub returns-in-Err-sync-clause-cut : goal.returns-in-Err-sync-clause-cut
returns-in-Err-sync-clause-cut g c =
    let sound = c.cut.ensures.sound ∙ c.requires in
    sync_failed _ _ _ _ _ _ _ c.in-Ok.ensures.written c.cut.ensures.kept c.sync.ensures.written (c.sync.ensures.kept sound)
    (c.sync.ensures.within sound) (c.sync.ensures.cut sound)

pub returns-in-Err-clause-failure : goal.returns-in-Err-clause-failure
returns-in-Err-clause-failure g c = told_same _ _ _ c.cut.ensures.failure (λ three. omega (arith, three))

pub returns-in-Ok-sync-clause-failure : goal.returns-in-Ok-sync-clause-failure
returns-in-Ok-sync-clause-failure g c =
    told_same _ _ _ (c.in-Ok-sync.ensures.failure ∙ c.cut.ensures.failure) (λ three. omega (arith, three))

pub returns-in-Err-sync-clause-failure : goal.returns-in-Err-sync-clause-failure
returns-in-Err-sync-clause-failure g c = told_failed _ _ c.in-Err-sync.ensures.failure
