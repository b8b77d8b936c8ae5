-- When what a log gives back is enough, and which records a log needs for that.
use Rattle.std.specs.Prelude.{◌≡◌, ℕ, true, List}
use Rattle.layout.specs.Layout.{IsLawful}
use Rattle.letter.specs.declared.letter.Letter.{Letter}
use Rattle.local_object.specs.Agreement.{agrees, knows_all_of}
use Rattle.local_object.specs.Doing.{is_moving}
use Rattle.local_object.specs.Restarts.{IsKeptHere}
use Rattle.open_calls.specs.OpenCalls.{NodeCallsDiffer}
use Rattle.deeds.specs.Kept.{KeptNode}
use Rattle.recoveries.specs.Records.{LogRecord, Recovers}

-- the copy has the cluster file, the number and the epoch of the node, and of each object what a restart has to keep.
-- In the node itself no two calls of an object have the same id, and only the node that moves objects moves one
pub record IsCopyOf (node copy : KeptNode) : Type 0 where
  pub file : copy.file ≡ node.file
  pub number : copy.ids.node ≡ node.ids.node
  pub epoch : copy.ids.epoch ≡ node.ids.epoch
  pub objects : (name : List ℕ) →
      IsKeptHere (node.ids.node ≡ node.file.mover) (node.objects name) (copy.objects name)
  pub distinct : (name : List ℕ) → NodeCallsDiffer (node.objects name).calls
  pub mover : (name : List ℕ) → is_moving (node.objects name) ≡ true → node.ids.node ≡ node.file.mover

-- these records are enough for what the node did: if a copy of the old node carries them out again, it is a copy of the
-- new node
abbrev pub IsLogged : (old : KeptNode) → List LogRecord → (new : KeptNode) → Type 0
IsLogged old records new =
    (copy copied : KeptNode) → IsCopyOf old copy → Recovers records copy copied → IsCopyOf new copied

-- these records are enough for what the node keeps: whatever carrying them out again from `first` gives is a copy of it
abbrev pub IsRecorded : (first : KeptNode) → List LogRecord → (node : KeptNode) → Type 0
IsRecorded first records node = (copy : KeptNode) → Recovers records first copy → IsCopyOf node copy

-- the node heeds a letter about the object of a name: no layout in it differs from the one that the node has heard of,
-- and the node that moves objects has heard of every layout in it
pub record IsHeeded (node : KeptNode) (name : List ℕ) (letter : Letter) : Type 0 where
  pub lawful : IsLawful letter.layout
  pub agrees : agrees (node.objects name) letter ≡ true
  pub mover : node.ids.node ≡ node.file.mover → knows_all_of (node.objects name) letter ≡ true
