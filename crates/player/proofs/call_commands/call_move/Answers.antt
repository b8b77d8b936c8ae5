use Rattle.player.proofs.StepCommandLemmas.{growth, moved_to}
use Rattle.player.proofs.call_commands.call_move.Goals as goal

pub returns : goal.returns
returns c = moved_to _ _ _ c.layout_id.result _ _ _ c.layout_id.ensures
    (growth _ _ _ _ _ _ c.call_move.result _ c.call_move.ensures.step c.call_move.ensures.number c.call_move.ensures.cause
    c.call_move.ensures.unchanged c.of_call.ensures)
