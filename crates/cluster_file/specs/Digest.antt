-- The contracts that docs/trusted.md lists do not depend on this file; other contracts and proofs do.
-- The digest of the settings that may not change.
use Rattle.std.specs.Prelude.{ℕ, ◌++◌, List, [], ◌∷◌, take, Option, Some, None}
use Rattle.std.specs.Int.{w32, to_be_bytes}
use Rattle.sha2.specs.Sha256.{sha256}
use Rattle.cluster_file.specs.File.{Fixed}

-- a delta as bytes: 0 for none, or 1 and the number as four bytes, high byte first
abbrev pub delta_bytes : Option ℕ → List ℕ
delta_bytes None = 0 ∷ []
delta_bytes (Some delta) = (1 ∷ []) ++ to_be_bytes w32 delta

-- what is hashed: k, n and the mover as a byte each, the delta, and each node as a byte, in order
abbrev pub hashed_fixed : Fixed → List ℕ
hashed_fixed fixed = (fixed.k ∷ fixed.n ∷ fixed.mover ∷ []) ++ delta_bytes fixed.delta ++ fixed.nodes

-- the first 16 bytes of the SHA-256 digest
unfoldable pub fixed_digest : Fixed → List ℕ
fixed_digest fixed = take 16 (sha256 (hashed_fixed fixed))
