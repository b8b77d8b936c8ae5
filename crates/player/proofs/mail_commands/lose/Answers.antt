use Rattle.player.proofs.StepCommandLemmas.{sure_done}
use Rattle.player.proofs.mail_commands.lose.Goals as goal

pub returns : goal.returns
returns c = sure_done _ _ _ _ c.lose.result _ c.lose.ensures.step c.lose.ensures.cause c.lose.ensures.unchanged c.of_step.ensures
