-- The contracts that docs/trusted.md lists do not depend on this file; other contracts and proofs do.
-- What a handle owns.
use Rattle.std.specs.Prelude.{Bool, true, false, Option, None, Some}
use Rattle.std.specs.declared.alloc.Global.{Global}
use Rattle.std.specs.contracts.impls.GlobalAllocator.TheImpl.{ghosts}
use Rattle.std.specs.Box.Ownership.{box_owns}
use base.Fml.{Fml, fsep, feq}
use denote.RattleType.{RattleType}
use denote.RawPtr.{Ptr}

-- the allocator of the C library, of which there is one
abbrev pub heap : Global
heap = record { memory = record { seal = tt } }

-- A handle with a value is open, and owns what a box with the value owns, which lies there. Any other is closed.
abbrev pub held_owns : (R : RattleType) → (is_open : Bool) → (at : Ptr) → Option R.Denot → Fml
held_owns R is_open at None = feq Bool is_open false
held_owns R is_open at (Some x) = fsep (feq Bool is_open true) (box_owns (ghosts.dealloc_token heap) R at x)
