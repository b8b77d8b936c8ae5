use Rattle.node.proofs.OpenMoveLemmas.{started_have}
use Rattle.node.proofs.laws.started_desks_have_the_open_moves.Goals as goal

pub returns : goal.returns
returns c = started_have
