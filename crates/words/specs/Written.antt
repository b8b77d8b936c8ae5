-- The contracts that docs/trusted.md lists do not depend on this file; other contracts and proofs do.
-- What a writer holds.
use Rattle.std.specs.Prelude.{ℕ, List, Option}

-- the bytes that a writer holds; none if they are not known
abbrev pub Written : Type 0
Written = Option (List ℕ)
