use Rattle.player.proofs.StepCommandLemmas.{sure}
use Rattle.player.proofs.mail_commands.take.Goals as goal

pub returns : goal.returns
returns c =
    sure _ _ _ _ _ _ c.take.result _ c.take.ensures.step c.take.ensures.took c.take.ensures.cause c.take.ensures.unchanged c.of_take.ensures
