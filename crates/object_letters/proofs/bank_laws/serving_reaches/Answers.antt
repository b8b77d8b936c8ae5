use Rattle.object_letters.proofs.LeadingLemmas.{served_reached}
use Rattle.object_letters.proofs.bank_laws.serving_reaches.Goals as goal

pub returns : goal.returns
returns c = served_reached
