use Rattle.atomicity.proofs.AtomicRunLemmas.{run_atomic}
use Rattle.atomicity.proofs.atomicity.runs_are_atomic.Goals as goal

pub returns : goal.returns
returns c = λ fragment layout delta start steps code lawful may. run_atomic fragment code layout delta start steps lawful may
