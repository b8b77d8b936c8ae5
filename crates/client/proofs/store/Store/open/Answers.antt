use Rattle.std.proofs.Common.{rules}
use Rattle.client.proofs.store.Store.open.Goals as goal

pub returns-clause-admin : goal.returns-clause-admin
returns-clause-admin g c = search rules
