use Rattle.player.proofs.StepCommandLemmas.{growth_done}
use Rattle.player.proofs.call_commands.supply.Goals as goal

pub returns : goal.returns
returns c = growth_done _ _ _ _ c.supply.result _ c.supply.ensures.step c.supply.ensures.cause c.supply.ensures.unchanged c.of_step.ensures
