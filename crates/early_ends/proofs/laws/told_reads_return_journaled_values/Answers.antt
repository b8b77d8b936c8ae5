use Rattle.early_ends.proofs.ToldValueLemmas.{told_value}
use Rattle.early_ends.proofs.laws.told_reads_return_journaled_values.Goals as goal

pub returns : goal.returns
returns c = λ fragment object last answer may code sound reads. told_value fragment object last code.determines sound answer may reads
