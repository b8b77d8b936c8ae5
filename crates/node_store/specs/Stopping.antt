-- The contracts that docs/trusted.md lists do not depend on this file; other contracts and proofs do.
-- Calls that are not carried out any more.
use Rattle.std.specs.Prelude.{◌≡◌, ℕ, Result, IfOk}

-- if no call is left, this one fails and changes nothing
abbrev pub FailsIfNoneLeft : {S T E : Type 0} → (left : ℕ) → (old new : S) → Result T E → Type 0
FailsIfNoneLeft left old new result = left ≡ 0 → (new ≡ old) × IfOk result (λ value. ⊥)
