-- Which nodes may write their log anew.
use Rattle.std.specs.Prelude.{◌≡◌, ℕ, true, false, List, [], ◌∷◌, Some}
use Rattle.local_object.specs.Local.{LocalObject, layout_here, new_local}
use Rattle.open_calls.specs.OpenCalls.{NodeCallsDiffer}
use Rattle.deeds.specs.Kept.{FileOfNames, KeptNode}
use Rattle.object_letters.specs.Leading.{can_be_led_to}
use Rattle.object_letters.specs.Rebuildable.{IsRebuildable}
use Rattle.recoveries.specs.RewrittenRecords.{is_among}

-- no two of the names are the same
abbrev pub AreDistinctNames : List (List ℕ) → Type 0
AreDistinctNames [] = Unit {0}
AreDistinctNames (name ∷ names) = (is_among names name ≡ false) × AreDistinctNames names

-- these are the names of the objects of which a node has heard: each once, and the object of each other name is a new
-- one
pub record AreHeardNames (node : KeptNode) (names : List (List ℕ)) : Type 0 where
  pub distinct : AreDistinctNames names
  pub others : (name : List ℕ) → is_among names name ≡ false →
      node.objects name ≡ new_local node.ids.node node.file.delta (node.file.first name)

-- an object is one of this node, by its cluster file: its banks came to be by requests to the node
pub record IsObjectOf (file : FileOfNames) (number : ℕ) (name : List ℕ) (local : LocalObject) : Type 0 where
  pub node : local.node ≡ number
  pub limit : local.delta ≡ file.delta
  pub first : layout_here local 0 ≡ Some (file.first name)
  pub rebuildable : IsRebuildable local

-- all objects of a node are its own
abbrev pub HasOwnObjects : KeptNode → Type 0
HasOwnObjects node = (name : List ℕ) → IsObjectOf node.file node.ids.node name (node.objects name)

-- no two open calls of one object have the same id
abbrev pub HasDistinctCalls : KeptNode → Type 0
HasDistinctCalls node = (name : List ℕ) → NodeCallsDiffer (node.objects name).calls

-- a rewritten log can lead back to all objects of a node: no move is open, and each position has a next one
abbrev pub CanBeWrittenAnew : KeptNode → Type 0
CanBeWrittenAnew node = (name : List ℕ) → can_be_led_to (node.objects name) ≡ true
