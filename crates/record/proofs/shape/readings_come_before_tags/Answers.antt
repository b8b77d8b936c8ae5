use Rattle.record.proofs.Phases.AttemptLemmas.{finds_tag}
use Rattle.record.proofs.shape.readings_come_before_tags.Goals as goal

pub returns : goal.returns
returns c = λ kind number phases tag reads course t. finds_tag kind number reads phases tag course t
