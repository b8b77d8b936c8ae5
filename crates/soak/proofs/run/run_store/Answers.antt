use Rattle.std.proofs.Common.{rules}
use Rattle.soak.proofs.run.run_store.Goals as goal

pub returns : goal.returns
returns g c = search rules
