use Rattle.player.proofs.StepCommandLemmas.{growth}
use Rattle.player.proofs.call_commands.call_write.Goals as goal

pub returns : goal.returns
returns c = growth _ _ _ _ _ _ c.call_write.result _ c.call_write.ensures.step c.call_write.ensures.number c.call_write.ensures.cause
    c.call_write.ensures.unchanged c.of_call.ensures
