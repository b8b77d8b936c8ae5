use Rattle.node.proofs.OpenMoveLemmas.{desks_have}
use Rattle.node.proofs.laws.desks_have_the_open_moves.Goals as goal

pub returns : goal.returns
returns c = desks_have
