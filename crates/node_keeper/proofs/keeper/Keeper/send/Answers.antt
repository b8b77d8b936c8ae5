use Rattle.std.proofs.Common.{rules}
use Rattle.node_keeper.proofs.keeper.Keeper.send.Goals as goal

pub returns-then-to-number-clause-grown : goal.returns-then-to-number-clause-grown
returns-then-to-number-clause-grown c = search rules
