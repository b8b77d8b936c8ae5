-- The contracts that docs/trusted.md lists do not depend on this file; other contracts and proofs do.
-- Which object a call of a client is for, and which value it writes.
use Rattle.std.specs.Prelude.{ℕ, ◌%◌, nat_lt, List, ◌∷◌, ◌++◌, codes, if◌then◌else◌}
use Rattle.std.specs.Fmt.{decimal}

-- the name of the object of a client's call of this number
abbrev pub object_called : (call : ℕ) → List ℕ
object_called call = if nat_lt (call % 4) 2 then codes "a" else codes "b"

-- the value that a client's write of this number writes: the client's number, a colon and the call's, in decimal
abbrev pub value_written : (client call : ℕ) → List ℕ
value_written client call = decimal client ++ 58 ∷ decimal call
