use Rattle.node_log.proofs.StateLemmas.{changes_are_noticed}
use Rattle.node_log.proofs.checksum_laws.changed_bytes_are_noticed.Goals as goal

pub returns : goal.returns
returns c = changes_are_noticed
