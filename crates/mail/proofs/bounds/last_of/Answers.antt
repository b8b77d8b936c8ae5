use Rattle.std.proofs.Common.{sym}
use Rattle.mail.proofs.CallBoundLemmas.{last_at}
use Rattle.mail.proofs.bounds.last_of.Goals as goal

pub returns-in-Some : goal.returns-in-Some
returns-in-Some c = sym (last_at 0 c.args.bounds.now c.in-Some.bound.now (sym c.in-Some.ensures.value))
