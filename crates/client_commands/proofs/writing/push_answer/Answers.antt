use Rattle.std.proofs.lemmas.Result.{on_ok_weaker}
use Rattle.client_commands.proofs.AnswerLemmas.{joined_behind}
use Rattle.client_commands.proofs.writing.push_answer.Goals as goal

pub returns-clause-bytes : goal.returns-clause-bytes
returns-clause-bytes c = on_ok_weaker c.push_strings.result (joined_behind _ _ _) c.push_strings.ensures.pushed
