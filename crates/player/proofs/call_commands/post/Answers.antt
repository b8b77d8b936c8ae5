use Rattle.player.proofs.StepCommandLemmas.{growth_done}
use Rattle.player.proofs.call_commands.post.Goals as goal

pub returns : goal.returns
returns c = growth_done _ _ _ _ c.post.result _ c.post.ensures.step c.post.ensures.cause c.post.ensures.unchanged c.of_step.ensures
