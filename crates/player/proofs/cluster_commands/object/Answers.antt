use Rattle.player.proofs.StepCommandLemmas.{growth_done, created_with}
use Rattle.player.proofs.cluster_commands.object.Goals as goal

pub returns : goal.returns
returns c = created_with _ _ _ c.layout_id.result _ _ _ _ c.layout_id.ensures
    (growth_done _ _ _ _ c.create_with.result _ c.create_with.ensures.step c.create_with.ensures.cause
    c.create_with.ensures.unchanged c.of_step.ensures)
