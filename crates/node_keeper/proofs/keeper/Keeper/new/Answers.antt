use Rattle.std.proofs.Common.{rules}
use Rattle.node_keeper.proofs.keeper.Keeper.new.Goals as goal

pub returns-clause-kept : goal.returns-clause-kept
returns-clause-kept c = search rules
