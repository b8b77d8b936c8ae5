-- What the number of an advice says.
use Rattle.std.proofs.Common.{◌≡◌, ◌⊎◌, inl, inr, ℕ, Bool, true, false, IsTrue, refl}
use Rattle.node_exports.specs.Nodes.{number_of_bool}

-- it is 0, or it is 1 and what holds if the advice is to do it
pub advised : (is_so : Bool) (number : ℕ) (P : Type 0) → number ≡ number_of_bool is_so → (IsTrue is_so → P)
    → (number ≡ 0) ⊎ ((number ≡ 1) × P)
advised true number P is holds = inr (is, holds refl)
advised false number P is holds = inl is
