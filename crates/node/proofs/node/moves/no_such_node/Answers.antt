use Rattle.node_clients.proofs.ErrorFittingLemmas.{stranger_fits}
use Rattle.node.proofs.node.moves.no_such_node.Goals as goal

pub returns-clause-told : goal.returns-clause-told
returns-clause-told c = stranger_fits c.args.node c.ranges.node.fits
