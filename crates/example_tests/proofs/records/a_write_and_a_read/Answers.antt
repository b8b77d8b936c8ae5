use Rattle.example_tests.proofs.Examples.WriteAndReadLemmas.{goes}
use Rattle.example_tests.proofs.records.a_write_and_a_read.Goals as goal

pub returns-clause-may : goal.returns-clause-may
returns-clause-may c = goes.may

pub returns-clause-gives : goal.returns-clause-gives
returns-clause-gives c = goes.gives
