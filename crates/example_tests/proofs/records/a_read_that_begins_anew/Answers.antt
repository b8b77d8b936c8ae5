use Rattle.example_tests.proofs.Examples.RestartedReadLemmas.{anew_goes}
use Rattle.example_tests.proofs.records.a_read_that_begins_anew.Goals as goal

pub returns-clause-may : goal.returns-clause-may
returns-clause-may c = anew_goes.may

pub returns-clause-gives : goal.returns-clause-gives
returns-clause-gives c = anew_goes.gives
