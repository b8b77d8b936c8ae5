-- The contracts that docs/trusted.md lists do not depend on this file; other contracts and proofs do.
-- Words of a text.
use Rattle.std.specs.Prelude.{ℕ, List}

-- the bytes of a word
abbrev pub Word : Type 0
Word = List ℕ
