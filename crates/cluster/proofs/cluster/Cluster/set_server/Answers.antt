use Rattle.std.proofs.Common.{rules}
use Rattle.cluster.proofs.cluster.Cluster.set_server.Goals as goal

pub returns-clause-cause : goal.returns-clause-cause
returns-clause-cause c = search rules
