use Rattle.std.proofs.Common.{refl}
use Rattle.example_tests.proofs.WriteAndReadLemmas.{every_event}
use Rattle.example_tests.proofs.nodes.a_write_and_a_read_at_nodes.Goals as goal

pub returns-clause-may : goal.returns-clause-may
returns-clause-may c = every_event

pub returns-clause-gives : goal.returns-clause-gives
returns-clause-gives c = refl
