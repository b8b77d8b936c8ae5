use Rattle.node_keeper.proofs.AskingReadLemmas.{reads_ask}
use Rattle.node_keeper.proofs.laws.reads_ask_for_the_next_position.Goals as goal

pub returns : goal.returns
returns c = reads_ask
