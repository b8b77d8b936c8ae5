use Rattle.std.proofs.Common.{rules}
use Rattle.node_keeper.proofs.entries.push_entry.Goals as goal

pub returns-clause-pushed : goal.returns-clause-pushed
returns-clause-pushed c = search rules
