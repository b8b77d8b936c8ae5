use Rattle.std.proofs.Common.{◌≡◌, ◌-◌, ◌^◌, min, take, sum_by}
use Rattle.node_keeper.specs.Sizes.{place_banks}
use Rattle.node_keeper.proofs.objects.sizes.banks_in.Given as goal

abbrev pub invariant-loop-place : goal.invariant-loop-place
invariant-loop-place l = l.banks ≡ min (sum_by place_banks (take l.place-index l.places)) (2 ^ 64 - 1)
