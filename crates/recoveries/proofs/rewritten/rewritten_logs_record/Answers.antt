use Rattle.recoveries.proofs.RewrittenLogLemmas.{rewritten_record}
use Rattle.recoveries.proofs.rewritten.rewritten_logs_record.Goals as goal

pub returns : goal.returns
returns c = rewritten_record
