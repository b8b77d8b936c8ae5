use Rattle.std.proofs.Common.{◌≡◌, take}
use Rattle.local_object.specs.Local.{greatest_position}
use Rattle.local_object.proofs.places.last_of.Given as goal

abbrev pub invariant-loop-place : goal.invariant-loop-place
invariant-loop-place l = l.greatest ≡ greatest_position (take l.place-index l.places) 0
