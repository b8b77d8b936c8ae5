use Rattle.refinement.proofs.ResentLetterLemmas.{letters_sent}
use Rattle.refinement.proofs.events.resent_letters_were_sent.Goals as goal

pub returns : goal.returns
returns c = letters_sent
