use Rattle.std.proofs.Common.{rules}
use Rattle.client.proofs.store.Store.create.Goals as goal

pub returns : goal.returns
returns g c = search rules
