use Rattle.closed_bank.proofs.ClosedBankLemmas.{same_answer, same_reply}
use Rattle.closed_bank.proofs.closed_banks_answer_the_same.Goals as goal

pub returns-clause-answers : goal.returns-clause-answers
returns-clause-answers c whole closed q told it is = same_answer whole closed it q told is

pub returns-clause-replies : goal.returns-clause-replies
returns-clause-replies c whole closed q now sent it is = same_reply whole closed it q now sent is
