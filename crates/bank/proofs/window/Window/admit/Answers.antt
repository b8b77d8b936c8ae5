use Rattle.std.proofs.Common.{rules}
use Rattle.bank.proofs.window.Window.admit.Goals as goal

pub returns-clause-fallen : goal.returns-clause-fallen
returns-clause-fallen c = search rules
