use Rattle.processes.proofs.AnswerLawLemmas.{get_answers}
use Rattle.processes.proofs.laws.clients_get_their_answers.Goals as goal

pub returns : goal.returns
returns c = get_answers c.left_logs_are_read.ensures
