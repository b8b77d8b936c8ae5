use Rattle.node_log.proofs.MovedLemmas.{moved_is_damaged}
use Rattle.node_log.proofs.laws.moved_entries_are_noticed.Goals as goal

pub returns : goal.returns
returns c = moved_is_damaged
