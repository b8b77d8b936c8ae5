use Rattle.std.proofs.Common.{arith}
use Rattle.std.proofs.lemmas.Grind.{common_steps}
use Rattle.cluster_file.proofs.reading.read_cluster_file.Goals as goal

pub returns-in_err-file_of : goal.returns-in_err-file_of
returns-in_err-file_of c = grind (arith, common_steps)
