use Rattle.object_letters.proofs.LeadingLemmas.{requests_lead}
use Rattle.object_letters.proofs.bank_laws.requests_lead_there.Goals as goal

pub returns : goal.returns
returns c = requests_lead
