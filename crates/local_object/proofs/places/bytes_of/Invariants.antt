use Rattle.std.proofs.Common.{◌≡◌, ◌-◌, ◌^◌, min, take, sum_by}
use Rattle.local_object.specs.Changing.{place_bytes}
use Rattle.local_object.proofs.places.bytes_of.Given as goal

abbrev pub invariant-loop-place : goal.invariant-loop-place
invariant-loop-place l = l.total ≡ min (sum_by place_bytes (take l.place-index l.places)) (2 ^ 64 - 1)
