-- The contracts that docs/trusted.md lists do not depend on this file; other contracts and proofs do.
-- What files and names of files lead to.
use Rattle.std.specs.Prelude.{◌≡◌, ◌⊎◌, ◌≤◌, ℕ, List, length, take, Bool, Option, None, Some, ⊤}

-- if the bytes of a file are known, and are at least so many, just so many first ones are left
abbrev pub IsCutTo : (count : ℕ) → Option (List ℕ) → Option (List ℕ) → Type 0
IsCutTo count None new = ⊤
IsCutTo count (Some bytes) new = count ≤ length bytes → new ≡ Some (take count bytes)

-- if bytes are known, those left are known too, and are the first ones: at most so many, or all
abbrev pub IsFrontOf : (count : ℕ) → Option (List ℕ) → Option (List ℕ) → Type 0
IsFrontOf count None new = ⊤
IsFrontOf count (Some bytes) new = new ≡ Some (take count bytes)

-- known bytes may lose some at their end, but none of so many first ones
abbrev pub LosesEnd : (count : ℕ) → Option (List ℕ) → Option (List ℕ) → Type 0
LosesEnd count old new = (most : ℕ) × (count ≤ most) × IsFrontOf most old new

-- if bytes are known, and are at least so many, those left are known too, and are the first ones: at least so many
abbrev pub LeavesFront : (count : ℕ) → Option (List ℕ) → Option (List ℕ) → Type 0
LeavesFront count None new = ⊤
LeavesFront count (Some bytes) new = count ≤ length bytes → LosesEnd count (Some bytes) new

-- what a start finds after the machine stops: what the open file keeps, or, if its name leads elsewhere, other bytes
abbrev pub found_after_stop : (other : Option (Option (List ℕ))) → (kept : Option (List ℕ)) → Option (List ℕ)
found_after_stop None kept = kept
found_after_stop (Some bytes) kept = bytes

-- a name leads to the open file, or still to one that keeps these bytes
abbrev pub MayLeadTo : (other : Option (Option (List ℕ))) → Option (List ℕ) → Type 0
MayLeadTo other bytes = (other ≡ None) ⊎ (other ≡ Some bytes)

-- what a contract sees of a log: the bytes that were written, and those that are kept, where they are known; whether
-- each sync succeeded; and whether a call failed
pub record LogBytes : Type 0 where
  pub written : Option (List ℕ)
  pub kept : Option (List ℕ)
  pub sound : Bool
  pub failed : Bool
