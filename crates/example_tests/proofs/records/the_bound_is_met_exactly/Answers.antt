use Rattle.example_tests.proofs.Examples.OneOverlapLemmas.{met_exactly}
use Rattle.example_tests.proofs.records.the_bound_is_met_exactly.Goals as goal

pub returns : goal.returns
returns c = met_exactly
