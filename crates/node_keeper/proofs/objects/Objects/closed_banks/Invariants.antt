use Rattle.std.proofs.Common.{◌≡◌, ◌+◌, ◌≤◌, ◌^◌, ◌-◌, min, sum_by}
use Rattle.node_keeper.specs.Sizes.{closed_banks, closed_at_places}
use Rattle.node_keeper.proofs.objects.Objects.closed_banks.Given as goal

abbrev pub invariant-loop-object : goal.invariant-loop-object
invariant-loop-object l =
    (l.closed ≤ 2 ^ 64 - 1)
    × (min (l.closed + sum_by closed_at_places l.object-iterator) (2 ^ 64 - 1) ≡ min (closed_banks l.self) (2 ^ 64 - 1))
