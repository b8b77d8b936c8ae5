use Rattle.std.proofs.Common.{◌≡◌, ◌+◌, ◌≤◌, ◌^◌, ◌-◌, min, sum_by}
use Rattle.node_keeper.specs.Sizes.{known_tags, tags_at_places}
use Rattle.node_keeper.proofs.objects.Objects.known_tags.Given as goal

abbrev pub invariant-loop-object : goal.invariant-loop-object
invariant-loop-object l =
    (l.tags ≤ 2 ^ 64 - 1) × (min (l.tags + sum_by tags_at_places l.object-iterator) (2 ^ 64 - 1) ≡ min (known_tags l.self) (2 ^ 64 - 1))
