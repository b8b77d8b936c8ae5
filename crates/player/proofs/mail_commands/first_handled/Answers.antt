use Rattle.player.proofs.DeliverLemmas.{found}
use Rattle.player.proofs.mail_commands.first_handled.Goals as goal

pub returns-clause-first : goal.returns-clause-first
returns-clause-first c =
    found c.args.cluster.now c.args.name.now c.in_ok-register.register.now c.in_ok-register.ensures.object c.args.from
    c.choice_at.result c.requires c.choice_at.ensures
