-- The histories of two runs are atomic, and one in which a read misses an answered write is not.
use Rattle.std.proofs.Common.{None, subst, arith}
use Rattle.atomicity.specs.Atomic.{IsAtomic}
use Rattle.example_tests.specs.RecordExamples.{whole, one_member, script_entries, move_entries, stale_entries}
use Rattle.example_tests.proofs.Examples.MissedWriteLemmas.{missed_is_refused}
use Rattle.example_tests.proofs.Examples.RunPartLemmas.{whole_is_code}
use Rattle.example_tests.proofs.Examples.WriteAndReadLemmas.{goes, parts}
use Rattle.example_tests.proofs.Examples.WriteMoveReadLemmas.{move_goes, move_parts, one_lawful}
use Rattle.atomicity.proofs.AtomicRunLemmas.{run_atomic}

did_is_atomic : IsAtomic script_entries
did_is_atomic = subst IsAtomic goes.gives (run_atomic whole whole_is_code one_member None 2 parts one_lawful goes.may)

moved_is_atomic : IsAtomic move_entries
moved_is_atomic = subst IsAtomic move_goes.gives (run_atomic whole whole_is_code one_member None 2 move_parts one_lawful move_goes.may)

pub stale_is_refused : IsAtomic stale_entries → ⊥
stale_is_refused = missed_is_refused 1 2 3 18 19 32 (omega arith)
