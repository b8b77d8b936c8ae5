use Rattle.cluster_file.proofs.DigestLemmas.{hashed_again}
use Rattle.cluster_file.proofs.laws.hashed_bytes_differ.Goals as goal

pub returns : goal.returns
returns c = hashed_again
