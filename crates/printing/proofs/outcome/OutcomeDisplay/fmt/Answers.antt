use Rattle.std.proofs.Common.{rules}
use Rattle.printing.proofs.outcome.OutcomeDisplay.fmt.Goals as goal

pub returns-in-Freed-clause-writes : goal.returns-in-Freed-clause-writes
returns-in-Freed-clause-writes g c = search rules
