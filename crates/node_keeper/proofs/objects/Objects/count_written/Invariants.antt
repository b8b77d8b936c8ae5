-- So many of the names before this index are written.
use Rattle.std.proofs.Common.{◌≡◌, ◌≤◌, length, take}
use Rattle.std.specs.List.{filter}
use Rattle.node_keeper.specs.Objects.{heard_names, objects_of}
use Rattle.node_keeper.specs.Written.{is_written}
use Rattle.node_keeper.proofs.objects.Objects.count_written.Given as goal

abbrev pub invariant-loop-index : goal.invariant-loop-index
invariant-loop-index l =
    (l.count ≡ length (filter (λ name. is_written (objects_of l.self name)) (take l.index (heard_names l.self))))
    × (l.count ≤ l.index)
