use Rattle.std.proofs.Common.{◌≡◌, ◌++◌, map, take}
use Rattle.std.specs.List.{AllByRecursion}
use Rattle.recoveries.specs.RewrittenRecords.{closes_records}
use Rattle.node_keeper.specs.Fitting.{IsLoggable}
use Rattle.node_keeper.specs.Logging.{log_entry_of}
use Rattle.node_keeper.proofs.keeper.Keeper.log_closes.Given as goal

abbrev pub invariant-loop-place : goal.invariant-loop-place
invariant-loop-place l =
    (l.entries.items ≡ l.fn.entries.items
    ++ map (log_entry_of l.self.digest) (closes_records l.name (take l.place-index l.places)))
    × AllByRecursion (IsLoggable l.self.digest) (closes_records l.name (take l.place-index l.places))
