use Rattle.example_tests.proofs.ReadOfProcessLemmas.{only_is_read}
use Rattle.example_tests.proofs.reads.the_only_write_is_read.Goals as goal

pub returns : goal.returns
returns c = only_is_read c.clients_see_atomic_histories.ensures
