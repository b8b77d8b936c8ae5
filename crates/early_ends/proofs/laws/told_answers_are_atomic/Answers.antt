use Rattle.early_ends.proofs.ToldEntryLemmas.{told_atomic}
use Rattle.early_ends.proofs.laws.told_answers_are_atomic.Goals as goal

pub returns : goal.returns
returns c = λ fragment object last told code sound may. told_atomic fragment object last code.determines sound told may
