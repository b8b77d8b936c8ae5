use Rattle.std.proofs.Common.{rules}
use Rattle.cluster.proofs.cluster.Cluster.pieces_at.Goals as goal

pub returns-clause-pieces : goal.returns-clause-pieces
returns-clause-pieces c = search rules
