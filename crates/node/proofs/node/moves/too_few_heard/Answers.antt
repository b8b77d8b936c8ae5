use Rattle.node_clients.proofs.ErrorFittingLemmas.{unheard_fits}
use Rattle.node.proofs.node.moves.too_few_heard.Goals as goal

pub returns-clause-told : goal.returns-clause-told
returns-clause-told c = unheard_fits c.args.node c.ranges.node.fits
