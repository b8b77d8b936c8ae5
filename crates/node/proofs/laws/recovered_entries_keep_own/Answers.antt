use Rattle.node.proofs.AnewLemmas.{recovered_entries}
use Rattle.node.proofs.laws.recovered_entries_keep_own.Goals as goal

pub returns : goal.returns
returns c = recovered_entries
