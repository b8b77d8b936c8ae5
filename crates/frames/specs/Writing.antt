-- The contracts that docs/trusted.md lists do not depend on this file; other contracts and proofs do.
-- What a writer gets.
use Rattle.std.specs.Prelude.{◌≡◌, ◌++◌, ℕ, List, Option, Result, Ok, Err}
use Rattle.std.specs.Io.KnownBytes.{Appends}

-- If a write succeeded, the writer got all of these bytes; if it failed, it got a beginning of them.
abbrev pub Writes : {T E : Type 0} → Option (List ℕ) → Option (List ℕ) → Result T E → List ℕ → Type 0
Writes old new (Ok x) bytes = Appends old new bytes
Writes old new (Err e) bytes = (front back : List ℕ) × (bytes ≡ front ++ back) × Appends old new front
