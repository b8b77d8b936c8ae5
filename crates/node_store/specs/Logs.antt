-- The contracts that docs/trusted.md lists do not depend on this file; other contracts and proofs do.
-- How the bytes of a log grow, and whether a call of it failed.
use Rattle.std.specs.Prelude.{◌≡◌, ℕ, List, Bool, IsTrue, Option, Some, None, Result, Ok, Err}
use Rattle.std.specs.Io.KnownBytes.{Appends}

-- if the bytes are known before and after, those after are those before, followed by some bytes
abbrev pub Grows : Option (List ℕ) → Option (List ℕ) → Type 0
Grows old new = (more : List ℕ) × Appends old new more

-- the bytes that were written are known and kept, perhaps with bytes behind them that were cut off
abbrev pub IsKeptBehind : (written kept : Option (List ℕ)) → Type 0
IsKeptBehind None kept = ⊥
IsKeptBehind (Some bytes) kept = Grows (Some bytes) kept

-- whether a call has failed: behind one that succeeds, this is as it was before; and behind one that fails, one has
abbrev pub TellsFailure : {T E : Type 0} → (old new : Bool) → Result T E → Type 0
TellsFailure old new (Ok done) = new ≡ old
TellsFailure old new (Err error) = IsTrue new

-- the same of an exchange, which puts another log in the place: behind one that succeeds, a call has failed only if one
-- had failed before
abbrev pub TellsExchange : {T E : Type 0} → (old new : Bool) → Result T E → Type 0
TellsExchange old new (Ok done) = IsTrue new → IsTrue old
TellsExchange old new (Err error) = IsTrue new
