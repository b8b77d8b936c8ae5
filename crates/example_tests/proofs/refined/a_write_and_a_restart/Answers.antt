use Rattle.example_tests.proofs.RefinedWriteAndReadLemmas.{write_worked}
use Rattle.example_tests.proofs.refined.a_write_and_a_restart.Goals as goal

pub returns : goal.returns
returns c = write_worked
