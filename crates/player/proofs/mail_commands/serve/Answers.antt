use Rattle.player.proofs.StepCommandLemmas.{growth_done}
use Rattle.player.proofs.mail_commands.serve.Goals as goal

pub returns : goal.returns
returns c = growth_done _ _ _ _ c.serve.result _ c.serve.ensures.step c.serve.ensures.cause c.serve.ensures.unchanged c.of_step.ensures
