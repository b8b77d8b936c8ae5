use Rattle.std.proofs.Common.{rules}
use Rattle.client.proofs.store.Store.stir.Goals as goal

pub returns-clause-err : goal.returns-clause-err
returns-clause-err g c = search rules
