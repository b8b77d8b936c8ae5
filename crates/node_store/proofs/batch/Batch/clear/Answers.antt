use Rattle.std.proofs.Common.{rules}
use Rattle.node_store.proofs.batch.Batch.clear.Goals as goal

pub returns : goal.returns
returns c = search rules
