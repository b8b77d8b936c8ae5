-- What a node keeps of all objects where it stops and starts again.
use Rattle.std.specs.Prelude.{◌≡◌, ◌<◌, ℕ, List}
use Rattle.local_object.specs.Restarts.{IsKeptHere}
use Rattle.deeds.specs.CallId.{HasRanges}
use Rattle.deeds.specs.Kept.{KeptNode}

-- what a node keeps after it has stopped and started again: its cluster file and its number are as before, of each
-- object it keeps what a log keeps, and its calls' ids begin a later epoch
pub record IsRestarted (before after : KeptNode) : Type 0 where
  pub file : after.file ≡ before.file
  pub number : after.ids.node ≡ before.ids.node
  pub epoch : before.ids.epoch < after.ids.epoch
  pub within : HasRanges after.ids
  pub objects : (name : List ℕ) →
      IsKeptHere (before.ids.node ≡ before.file.mover) (before.objects name) (after.objects name)
