use Rattle.cluster_file.proofs.WrittenLemmas.{read_again}
use Rattle.cluster_file.proofs.laws.read_files_are_written.Goals as goal

pub returns : goal.returns
returns c = read_again
