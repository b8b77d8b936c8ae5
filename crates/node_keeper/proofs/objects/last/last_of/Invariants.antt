use Rattle.std.proofs.Common.{◌≡◌, take}
use Rattle.local_object.specs.Local.{greatest_position}
use Rattle.node_keeper.proofs.objects.last.last_of.Given as goal

abbrev pub invariant-loop-place : goal.invariant-loop-place
invariant-loop-place l = l.greatest ≡ greatest_position (take l.place-index l.places) 0
