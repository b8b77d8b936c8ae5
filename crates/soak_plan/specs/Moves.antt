-- The contracts that docs/trusted.md lists do not depend on this file; other contracts and proofs do.
-- Which object a move of the administrator is for, and to which layout it leads.
use Rattle.std.specs.Prelude.{ℕ, ◌+◌, ◌/◌, ◌%◌, ◌==◌, List, codes, if◌then◌else◌}

-- the name of the object that the move of this number moves
abbrev pub object_moved : (number : ℕ) → List ℕ
object_moved number = if (number % 2) == 0 then codes "a" else codes "b"

-- the number of the layout to which the move of this number leads
abbrev pub layout_after : (number : ℕ) → ℕ
layout_after number = (number / 2 + 1) % 3
