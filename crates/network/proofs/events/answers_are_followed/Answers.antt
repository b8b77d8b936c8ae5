use Rattle.network.proofs.AnsweredCallLemmas.{answer_followed}
use Rattle.network.proofs.events.answers_are_followed.Goals as goal

pub returns : goal.returns
returns c = answer_followed
