use Rattle.refinement.proofs.AnswerLemmas.{answered_values}
use Rattle.refinement.proofs.systems.answered_reads_have_values.Goals as goal

pub returns : goal.returns
returns c = answered_values
