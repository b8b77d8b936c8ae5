use Rattle.std.proofs.Common.{rules}
use Rattle.client.proofs.store.Store.retire.Goals as goal

pub returns : goal.returns
returns g c = search rules
