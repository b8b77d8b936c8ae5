use Rattle.std.proofs.Common.{rules}
use Rattle.client.proofs.store.Store.read.Goals as goal

pub returns-clause-ok : goal.returns-clause-ok
returns-clause-ok g c = search rules
