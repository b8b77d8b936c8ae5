use Rattle.std.proofs.Common.{rules}
use Rattle.node_log.proofs.head.has_digest.Goals as goal

pub returns : goal.returns
returns c = search rules
