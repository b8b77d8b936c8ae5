use Rattle.std.proofs.Common.{rules}
use Rattle.cluster.proofs.cluster.Cluster.post_at.Goals as goal

pub returns-clause-step : goal.returns-clause-step
returns-clause-step c = search rules
