use Rattle.player.proofs.StepCommandLemmas.{growth_done}
use Rattle.player.proofs.call_commands.again.Goals as goal

pub returns : goal.returns
returns c = growth_done _ _ _ _ c.again.result _ c.again.ensures.step c.again.ensures.cause c.again.ensures.unchanged c.of_step.ensures
