use Rattle.std.proofs.Common.{◌≡◌, ◌+◌, ◌≤◌, ◌^◌, ◌-◌, min, sum_by}
use Rattle.local_object.specs.Changing.{bytes_at_places}
use Rattle.node_keeper.specs.Objects.{bytes_in_banks}
use Rattle.node_keeper.proofs.objects.Objects.bytes_stored.Given as goal

abbrev pub invariant-loop-object : goal.invariant-loop-object
invariant-loop-object l =
    (l.bytes ≤ 2 ^ 64 - 1) × (min (l.bytes + sum_by bytes_at_places l.object-iterator) (2 ^ 64 - 1)
    ≡ min (bytes_in_banks l.self) (2 ^ 64 - 1))
