use Rattle.std.proofs.Common.{◌≡◌, ◌++◌, map}
use Rattle.std.specs.List.{AllByRecursion}
use Rattle.recoveries.specs.Records.{LogRecord}
use Rattle.node_keeper.specs.Fitting.{IsLoggable}
use Rattle.node_keeper.specs.Logging.{log_entry_of}
use Rattle.node_keeper.proofs.keeper.Keeper.log_letters.Given as goal

abbrev pub invariant-loop-letter : goal.invariant-loop-letter
invariant-loop-letter l =
    (l.entries.items ≡ l.fn.entries.items ++ map (log_entry_of l.self.digest) (map (LogRecord.Serves l.name) l.yielded))
    × AllByRecursion (IsLoggable l.self.digest) (map (LogRecord.Serves l.name) l.yielded)
