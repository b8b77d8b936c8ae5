use Rattle.std.proofs.Common.{◌≡◌, ◌-◌, ◌^◌, min, take, sum_by}
use Rattle.node_keeper.specs.Sizes.{place_closed}
use Rattle.node_keeper.proofs.objects.sizes.closed_in.Given as goal

abbrev pub invariant-loop-place : goal.invariant-loop-place
invariant-loop-place l = l.closed ≡ min (sum_by place_closed (take l.place-index l.places)) (2 ^ 64 - 1)
