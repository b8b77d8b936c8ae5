use Rattle.player.proofs.StepCommandLemmas.{growth_done}
use Rattle.player.proofs.call_commands.supply_as.Goals as goal

pub returns : goal.returns
returns c = growth_done _ _ _ _ c.supply_value.result _ c.supply_value.ensures.step c.supply_value.ensures.cause
    c.supply_value.ensures.unchanged c.of_step.ensures
