use Rattle.node_keeper.proofs.FittingLemmas.{unlogged_epoch}
use Rattle.node_keeper.proofs.keeper.begin.begin_epoch.Goals as goal

pub returns-clause-refused : goal.returns-clause-refused
returns-clause-refused c = unlogged_epoch c.args.ids.now c.log.result c.log.ensures.writes
