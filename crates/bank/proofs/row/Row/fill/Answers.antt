use Rattle.std.proofs.Common.{rules}
use Rattle.bank.proofs.row.Row.fill.Goals as goal

pub returns-then-is_some-clause-added : goal.returns-then-is_some-clause-added
returns-then-is_some-clause-added c = search rules

pub returns-clause-row : goal.returns-clause-row
returns-clause-row c = search rules
