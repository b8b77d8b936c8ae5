use Rattle.std.proofs.Common.{rules}
use Rattle.cluster.proofs.cluster.Cluster.repeat.Goals as goal

pub returns-clause-step : goal.returns-clause-step
returns-clause-step c = search rules
