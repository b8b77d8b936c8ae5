use Rattle.node_strings.proofs.ArrivalLemmas.{is_found, is_only}
use Rattle.node_strings.proofs.arrival.read_arrival.Goals as goal

pub returns-clause-found : goal.returns-clause-found
returns-clause-found c = is_found c.args.frame c.read_split.result c.read_split.ensures

pub returns-clause-only : goal.returns-clause-only
returns-clause-only c = is_only c.args.frame c.read_split.result c.read_split.ensures
