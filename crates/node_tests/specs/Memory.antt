-- The contracts that docs/trusted.md lists do not depend on this file; other contracts and proofs do.
-- What is known of a folder in memory.
use Rattle.std.specs.Prelude.{ℕ, List, Option, None, Some, Vec}

-- the bytes that a start finds in place of those of the open file, all of which are known
abbrev pub other_of : {A : Type 0} → Option (Vec ℕ A) → Option (Option (List ℕ))
other_of None = None
other_of (Some bytes) = Some (Some bytes.items)
