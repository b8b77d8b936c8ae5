use Rattle.player.proofs.StepCommandLemmas.{growth_done}
use Rattle.player.proofs.mail_commands.repeat.Goals as goal

pub returns : goal.returns
returns c = growth_done _ _ _ _ c.repeat.result _ c.repeat.ensures.step c.repeat.ensures.cause c.repeat.ensures.unchanged c.of_step.ensures
