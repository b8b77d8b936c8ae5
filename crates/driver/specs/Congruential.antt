-- The contracts that docs/trusted.md lists do not depend on this file; other contracts and proofs do.
-- The numbers of the chooser `Congruential`.
use Rattle.std.specs.Prelude.{ℕ, ◌+◌, ◌*◌, ◌/◌, ◌%◌, ◌^◌}

-- the state after one choice
abbrev pub state_after : ℕ → ℕ
state_after state = (state * 6364136223846793005 + 1442695040888963407) % 2 ^ 64

-- the number that a chooser in this state returns: the upper 31 of its 64 bits
abbrev pub chosen : ℕ → ℕ
chosen state = state / 2 ^ 33
