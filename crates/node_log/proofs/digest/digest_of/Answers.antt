use Rattle.std.proofs.Common.{◌∙◌, ap, w32}
use Rattle.std.specs.Int.{to_be_bytes}
use Rattle.node_log.specs.Entry.{digest_of}
use Rattle.node_log.proofs.digest.digest_of.Goals as goal

pub returns : goal.returns
unfolding digest_of
returns c = c.to_be_bytes.ensures ∙ ap (to_be_bytes w32) c.checksum.ensures
