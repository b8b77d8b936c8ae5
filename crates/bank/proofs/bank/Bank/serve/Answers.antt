use Rattle.std.proofs.Common.{rules}
use Rattle.bank.proofs.bank.Bank.serve.Goals as goal

pub returns-in-Finalize-clause-reply : goal.returns-in-Finalize-clause-reply
returns-in-Finalize-clause-reply c = search rules
