use Rattle.soundness.proofs.Accounting.MailChangeLemmas.{mailed-stepped}
use Rattle.soundness.proofs.accounts.mailed_bytes_come_and_go.Goals as goal

pub returns : goal.returns
returns c = λ fragment object now step. mailed-stepped fragment object now step
