use Rattle.player.proofs.WholeCallLemmas.{told_move}
use Rattle.player.proofs.whole_calls.move_to.Goals as goal

pub returns : goal.returns
returns c = told_move _ _ _ _ _ _ _ _ c.move_to.result _ c.layout_id-id.ensures c.move_to.ensures c.of_whole.ensures
