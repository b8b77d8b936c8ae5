use Rattle.std.proofs.Common.{ℕ, ap, ◌∙◌, bit_xor, w32}
use Rattle.std.specs.Int.{to_be_bytes}
use Rattle.node_log.specs.Crc32c.{all_bits}
use Rattle.node_log.specs.Entry.{digest_behind}
use Rattle.node_log.proofs.chain.Chain.digest_behind.Goals as goal

pub returns : goal.returns
unfolding digest_behind
returns c = c.to_be_bytes.ensures ∙ ap (λ (t : ℕ). to_be_bytes w32 (bit_xor t all_bits)) c.after_bytes.ensures
