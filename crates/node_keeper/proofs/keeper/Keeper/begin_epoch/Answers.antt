use Rattle.std.proofs.Common.{refl}
use Rattle.node_keeper.proofs.EpochLemmas.{epoch_acts}
use Rattle.node_keeper.proofs.ResultLemmas.{ok_three}
use Rattle.node_keeper.proofs.keeper.Keeper.begin_epoch.Goals as goal

pub returns-clause-acts : goal.returns-clause-acts
returns-clause-acts c =
    ok_three c.begin_epoch.result c.begin_epoch.ensures.more c.begin_epoch.ensures.begun c.begin_epoch.ensures.entry
    (λ more ids grown asker. epoch_acts asker c.args.self.now _ c.args.work.now _ refl refl refl more ids grown)
