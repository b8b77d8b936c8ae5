-- What a node keeps of all objects, by name.
use Rattle.std.specs.Prelude.{◌≡◌, ◌≢◌, ℕ, nat_eq, List, Option, None, Some, slice_get, sum_by}
use Rattle.std.specs.Cmp.Lexicographic.{pointwise}
use Rattle.indexmap.specs.IndexMap.{get, keys, values}
use Rattle.layout.specs.Layout.{Layout}
use Rattle.cluster_file.specs.Placement.{placed}
use Rattle.local_object.specs.Changing.{bytes_at_places}
use Rattle.local_object.specs.Local.{LocalObject, new_local}
use Rattle.deeds.specs.Named.{with_named}
use Rattle.node_keeper.specs.declared.objects.Objects.{Objects}

-- the layout of position 0 of the object of a name
abbrev pub first_layout_of : Objects → (name : List ℕ) → Layout
first_layout_of objects name = placed objects.placement name

-- what the node keeps of the object of a name of which it has not heard
abbrev pub new_of : Objects → (name : List ℕ) → LocalObject
new_of objects name = new_local objects.number objects.delta (first_layout_of objects name)

-- the object that was found, or the new one if none was found
abbrev pub found_or_new : Option LocalObject → (new : LocalObject) → LocalObject
found_or_new None new = new
found_or_new (Some local) new = local

-- what the node keeps of the object of a name
abbrev pub objects_of : Objects → (name : List ℕ) → LocalObject
objects_of objects name = found_or_new (get (pointwise nat_eq) objects.by_name name) (new_of objects name)

-- the names of the objects in the map, in the map's order; every other object is a new one
abbrev pub heard_names : Objects → List (List ℕ)
heard_names objects = keys objects.by_name

-- at this place of them is this name, and this is what the node keeps of its object
pub record IsHeardAt (objects : Objects) (index : ℕ) (name : List ℕ) (local : LocalObject) : Type 0 where
  pub there : slice_get (heard_names objects) index ≡ Some name
  pub found : get (pointwise nat_eq) objects.by_name name ≡ Some local

-- the object of this name takes no memory if it is a new one: it is not in the map
abbrev pub IsAbsentIfNew : Objects → (name : List ℕ) → Type 0
IsAbsentIfNew objects name =
    (local : LocalObject) → get (pointwise nat_eq) objects.by_name name ≡ Some local → local ≢ new_of objects name

-- the number of bytes of all pieces in the banks that the node keeps
abbrev pub bytes_in_banks : Objects → ℕ
bytes_in_banks objects = sum_by bytes_at_places (values objects.by_name)

-- the node's number, its delta, and the layouts that names have before any move are the same
pub record HaveSameSettings (old new : Objects) : Type 0 where
  pub number : new.number ≡ old.number
  pub delta : new.delta ≡ old.delta
  pub placement : new.placement ≡ old.placement

-- the node keeps of each object what it kept before
pub record AreSame (old new : Objects) : Type 0 where
  pub settings : HaveSameSettings old new
  pub objects : (name : List ℕ) → objects_of new name ≡ objects_of old name

-- the node keeps `local` of the object of this name, and of each other object what it kept before
pub record IsChangedAt (old : Objects) (name : List ℕ) (local : LocalObject) (new : Objects) : Type 0 where
  pub settings : HaveSameSettings old new
  pub objects : (other : List ℕ) → objects_of new other ≡ with_named (objects_of old) name local other
