use Rattle.std.proofs.Common.{ℕ, ap, bit_xor}
use Rattle.node_log.specs.Crc32c.{crc32c, all_bits}
use Rattle.node_log.proofs.states.checksum.Goals as goal

pub returns : goal.returns
unfolding crc32c
returns c = ap (λ (t : ℕ). bit_xor t all_bits) c.after_bytes.ensures
