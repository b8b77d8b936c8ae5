use Rattle.player.proofs.StepCommandLemmas.{growth}
use Rattle.player.proofs.call_commands.call_read.Goals as goal

pub returns : goal.returns
returns c = growth _ _ _ _ _ _ c.call_read.result _ c.call_read.ensures.step c.call_read.ensures.number c.call_read.ensures.cause
    c.call_read.ensures.unchanged c.of_call.ensures
