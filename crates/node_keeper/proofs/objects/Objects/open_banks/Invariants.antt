use Rattle.std.proofs.Common.{◌≡◌, ◌+◌, ◌≤◌, ◌^◌, ◌-◌, min, sum_by}
use Rattle.node_keeper.specs.Sizes.{open_banks, banks_at_places}
use Rattle.node_keeper.proofs.objects.Objects.open_banks.Given as goal

abbrev pub invariant-loop-object : goal.invariant-loop-object
invariant-loop-object l =
    (l.banks ≤ 2 ^ 64 - 1) × (min (l.banks + sum_by banks_at_places l.object-iterator) (2 ^ 64 - 1) ≡ min (open_banks l.self) (2 ^ 64 - 1))
