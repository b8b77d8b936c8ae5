use Rattle.layout.proofs.QuorumLemmas.{quorums_share}
use Rattle.layout.proofs.layout.quorums_share.Goals as goal

pub returns : goal.returns
returns c = quorums_share
