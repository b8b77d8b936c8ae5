-- The contracts that docs/trusted.md lists do not depend on this file; other contracts and proofs do.
-- Objects that may equal new ones.
use Rattle.std.specs.Prelude.{◌≡◌, ℕ, nat_eq, Bool, true, List, Some}
use Rattle.std.specs.Cmp.Lexicographic.{pointwise}
use Rattle.indexmap.specs.IndexMap.{get}
use Rattle.local_object.specs.Local.{LocalObject}
use Rattle.node_keeper.specs.Objects.{new_of}
use Rattle.node_keeper.specs.declared.objects.Objects.{Objects}

-- this is true if the map has the object of this name, and that equals a new one
abbrev pub IsToldIfNew : Objects → (name : List ℕ) → Bool → Type 0
IsToldIfNew objects name told =
    (local : LocalObject) → get (pointwise nat_eq) objects.by_name name ≡ Some local → local ≡ new_of objects name →
    told ≡ true
