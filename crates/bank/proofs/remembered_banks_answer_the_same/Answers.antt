use Rattle.bank.proofs.RememberedReplyLemmas.{answer-remembered, reply-remembered}
use Rattle.bank.proofs.remembered_banks_answer_the_same.Goals as goal

pub returns-clause-answers : goal.returns-clause-answers
returns-clause-answers c = answer-remembered

pub returns-clause-replies : goal.returns-clause-replies
returns-clause-replies c = reply-remembered
