-- The contracts that docs/trusted.md lists do not depend on this file; other contracts and proofs do.
-- Bytes of which only the number and the checksum are kept.
use Rattle.std.specs.Prelude.{◌≡◌, ◌+◌, ◌%◌, ◌^◌, ℕ, List, length, bit_xor}
use Rattle.std.specs.Int.{w32, to_be_bytes}
use Rattle.node_log.specs.Crc32c.{after_bytes, all_bits}
use Rattle.node_log.specs.declared.tally.Tally.{Tally}

-- these bytes were taken behind those before
pub record Takes (before after : Tally) (bytes : List ℕ) : Type 0 where
  pub counted : after.count ≡ (before.count + length bytes) % 2 ^ 64
  pub checked : after.state ≡ after_bytes before.state bytes

-- the digest of the bytes behind which the check has this state
abbrev pub digest_at : ℕ → List ℕ
digest_at state = to_be_bytes w32 (bit_xor state all_bits)
