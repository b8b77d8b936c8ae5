-- What a node keeps of all objects.
use Rattle.std.specs.Prelude.{ℕ, List, Option}
use Rattle.layout.specs.Layout.{Layout}
use Rattle.deeds.specs.CallId.{CallIds}
use Rattle.local_object.specs.Local.{LocalObject, new_local}

-- what a cluster file says: of how many finalized versions banks keep pieces besides the newest (None: of all), which
-- node moves objects, and the layout of position 0 of the object of each name
pub record FileOfNames : Type 0 where
  pub delta : Option ℕ
  pub mover : ℕ
  pub first : (name : List ℕ) → Layout

-- what a node keeps: its cluster file, the object of each name, and the source of its calls' ids
pub record KeptNode : Type 0 where
  pub file : FileOfNames
  pub objects : (name : List ℕ) → LocalObject
  pub ids : CallIds

-- what the node with this number keeps before it has heard of any object
abbrev pub new_node : FileOfNames → (number : ℕ) → KeptNode
new_node file number = record {
  file = file;
  objects = λ name. new_local number file.delta (file.first name);
  ids = record { node = number; epoch = 0; given = 0 };
}
