use Rattle.example_tests.proofs.ReadOfProcessLemmas.{answered_are_read}
use Rattle.example_tests.proofs.reads.answered_writes_are_read.Goals as goal

pub returns : goal.returns
returns c = answered_are_read c.clients_see_atomic_histories.ensures
