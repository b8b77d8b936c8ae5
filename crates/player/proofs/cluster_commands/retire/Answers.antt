use Rattle.player.proofs.StepCommandLemmas.{frees}
use Rattle.player.proofs.cluster_commands.retire.Goals as goal

pub returns : goal.returns
returns c =
    frees _ _ _ _ c.retire.result _ c.retire.ensures.step c.retire.ensures.freed c.retire.ensures.cause c.retire.ensures.unchanged
    c.of_retire.ensures
