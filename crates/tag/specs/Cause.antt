-- The contracts that docs/trusted.md lists do not depend on this file; other contracts and proofs do.
-- Why a function that may allocate memory is refused.
use Rattle.std.specs.Prelude.{◌≡◌, ◌⊎◌, Option, Some, None}
use Rattle.tag.specs.declared.refusal.Refusal.{Refusal}
use Rattle.tag.specs.declared.refusal.Refusal.TheVariants.{NoMemory}

-- the refusal is the given cause, or NoMemory if there is no cause
abbrev pub IsRefusalBy : Option Refusal → Refusal → Type 0
IsRefusalBy cause refusal = (cause ≡ Some refusal) ⊎ ((cause ≡ None) × (refusal ≡ NoMemory))
