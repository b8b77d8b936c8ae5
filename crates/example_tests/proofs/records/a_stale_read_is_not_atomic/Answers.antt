use Rattle.example_tests.proofs.Examples.StaleReadLemmas.{stale_is_refused}
use Rattle.example_tests.proofs.records.a_stale_read_is_not_atomic.Goals as goal

pub returns : goal.returns
returns c = stale_is_refused
