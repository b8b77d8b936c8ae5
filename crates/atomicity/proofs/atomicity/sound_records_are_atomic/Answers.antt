use Rattle.std.proofs.Common.{arith}
use Rattle.atomicity.proofs.AtomicRunLemmas.{atomic_of_coded}
use Rattle.atomicity.proofs.atomicity.sound_records_are_atomic.Goals as goal

pub returns : goal.returns
returns c = grind (arith, atomic_of_coded)
