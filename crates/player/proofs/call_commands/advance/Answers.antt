use Rattle.player.proofs.StepCommandLemmas.{growth_done}
use Rattle.player.proofs.call_commands.advance.Goals as goal

pub returns : goal.returns
returns c =
    growth_done _ _ _ _ c.advance.result _ c.advance.ensures.step c.advance.ensures.cause c.advance.ensures.unchanged c.of_step.ensures
