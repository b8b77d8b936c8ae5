-- Phases that begin from a step on.
use Rattle.std.proofs.Common.{ℕ, ◌≤◌, List, [], ◌∷◌}
use Rattle.mail.specs.Phase.{Phase}

-- the first phase starts at this step or later
abbrev pub StartsFrom : ℕ → List Phase → Type 0
StartsFrom now [] = Unit {0}
StartsFrom now (phase ∷ phases) = now ≤ phase.start
