use Rattle.example_tests.proofs.RefinedWriteAndReadLemmas.{read_worked}
use Rattle.example_tests.proofs.refined.a_read_of_a_new_object.Goals as goal

pub returns : goal.returns
returns c = read_worked
