use Rattle.cluster_file.proofs.ReadAgainLemmas.{written_is_read}
use Rattle.cluster_file.proofs.laws.written_files_are_read.Goals as goal

pub returns : goal.returns
returns c = written_is_read
