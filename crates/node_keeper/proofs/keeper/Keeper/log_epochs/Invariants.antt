use Rattle.std.proofs.Common.{◌≡◌, ◌++◌, map}
use Rattle.std.specs.List.{AllByRecursion}
use Rattle.recoveries.specs.RewrittenRecords.{epoch_records}
use Rattle.node_keeper.specs.Fitting.{IsLoggable}
use Rattle.node_keeper.specs.Logging.{log_entry_of}
use Rattle.node_keeper.proofs.keeper.Keeper.log_epochs.Given as goal

abbrev pub invariant-loop-epoch : goal.invariant-loop-epoch
invariant-loop-epoch l =
    (l.entries.items ≡ l.fn.entries.items ++ map (log_entry_of l.self.digest) (epoch_records l._epoch))
    × AllByRecursion (IsLoggable l.self.digest) (epoch_records l._epoch)
