use Rattle.example_tests.proofs.Examples.WriteMoveReadLemmas.{move_goes}
use Rattle.example_tests.proofs.records.a_write_a_move_and_a_read.Goals as goal

pub returns-clause-may : goal.returns-clause-may
returns-clause-may c = move_goes.may

pub returns-clause-gives : goal.returns-clause-gives
returns-clause-gives c = move_goes.gives
