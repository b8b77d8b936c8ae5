use Rattle.std.proofs.Common.{rules}
use Rattle.mail.proofs.mail.Mail.lose.Goals as goal

pub returns : goal.returns
returns c = search rules
