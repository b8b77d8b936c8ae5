-- The contracts that docs/trusted.md lists do not depend on this file; other contracts and proofs do.
-- The limits of a plan.
use Rattle.std.specs.Prelude.{ℕ, ◌≤◌}

-- a plan with these numbers is allowed: it has a client, and no number is above its limit
pub record IsWithin (client_count call_count move_count : ℕ) : Type 0 where
  pub some : 1 ≤ client_count
  pub clients : client_count ≤ 64
  pub calls : call_count ≤ 10000
  pub moves : move_count ≤ 100
