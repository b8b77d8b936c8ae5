use Rattle.example_tests.proofs.Examples.RetiredPositionLemmas.{base_goes}
use Rattle.example_tests.proofs.records.a_read_from_the_base.Goals as goal

pub returns-clause-may : goal.returns-clause-may
returns-clause-may c = base_goes.may

pub returns-clause-gives : goal.returns-clause-gives
returns-clause-gives c = base_goes.gives
