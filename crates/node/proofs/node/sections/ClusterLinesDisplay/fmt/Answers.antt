use Rattle.std.proofs.Common.{rules, sym}
use Rattle.node.proofs.node.sections.ClusterLinesDisplay.fmt.Goals as goal

pub returns-clause-writes : goal.returns-clause-writes
returns-clause-writes g c = rw (sym c.state_word.ensures) (search rules)
