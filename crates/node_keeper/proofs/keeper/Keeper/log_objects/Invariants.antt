use Rattle.std.proofs.Common.{◌≡◌, ◌++◌, map, take}
use Rattle.std.specs.List.{AllByRecursion}
use Rattle.node_keeper.specs.Objects.{heard_names}
use Rattle.recoveries.specs.RewrittenRecords.{object_records}
use Rattle.node_keeper.specs.Fitting.{IsLoggable}
use Rattle.node_keeper.specs.Keeping.{kept_of}
use Rattle.node_keeper.specs.Logging.{log_entry_of}
use Rattle.node_keeper.proofs.keeper.Keeper.log_objects.Given as goal

abbrev pub invariant-loop-index : goal.invariant-loop-index
invariant-loop-index l =
    (l.entries.items ≡ l.fn.entries.items
    ++ map (log_entry_of l.self.digest) (object_records (kept_of l.self) (take l.index (heard_names l.self.objects))))
    × AllByRecursion (IsLoggable l.self.digest) (object_records (kept_of l.self) (take l.index (heard_names l.self.objects)))
