use Rattle.std.proofs.Common.{◌≤◌, length, List, subst, arith}
use Rattle.tag.specs.declared.limits.TheConstants.{MOST_MESSAGES}
use Rattle.mail.specs.declared.message.Message.{Message}
use Rattle.cluster.proofs.SumBoundLemmas.{waiting_few}
use Rattle.cluster.proofs.cluster.mailing.waiting.Goals as goal

pub returns-clause-within : goal.returns-clause-within
returns-clause-within c =
    let object = c.args.register.now.object in
    let seen : length c.mail_view.result.now ≤ MOST_MESSAGES = omega (arith, c.len-few.ensures.value, c.len-few.ensures.within) in
    let few : length object.mail ≤ MOST_MESSAGES = subst (λ (ms : List Message). length ms ≤ MOST_MESSAGES) c.mail_view.ensures seen in
    let most = waiting_few object c.args.register.now.last c.soundness.ensures.sound few in
    omega (arith, most, c.mailed.ensures.value)
