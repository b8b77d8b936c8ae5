use Rattle.told_replies.proofs.EarlyValueLemmas.{early_reads}
use Rattle.told_replies.proofs.early_reads_return_values.Goals as goal

pub returns : goal.returns
returns c = early_reads
