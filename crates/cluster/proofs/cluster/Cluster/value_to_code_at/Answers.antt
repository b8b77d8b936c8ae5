use Rattle.std.proofs.Common.{rules}
use Rattle.cluster.proofs.cluster.Cluster.value_to_code_at.Goals as goal

pub returns-clause-value : goal.returns-clause-value
returns-clause-value c = search rules
