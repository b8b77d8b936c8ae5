use Rattle.writable_nodes.proofs.StopLemmas.{stops_at_answers}
use Rattle.writable_nodes.proofs.laws.fit_nodes_stop_at_answers.Goals as goal

pub returns : goal.returns
returns c = stops_at_answers
