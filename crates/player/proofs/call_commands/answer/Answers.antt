use Rattle.player.proofs.StepCommandLemmas.{growth}
use Rattle.player.proofs.call_commands.answer.Goals as goal

pub returns : goal.returns
returns c = growth _ _ _ _ _ _ c.answer.result _ c.answer.ensures.step c.answer.ensures.receipt c.answer.ensures.cause
    c.answer.ensures.unchanged c.of_answer.ensures
