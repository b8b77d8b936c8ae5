use Rattle.call.proofs.ReadingPathLemmas
use Rattle.call.proofs.readings_lead_to_the_end.Goals as goal

pub returns : goal.returns
returns c = ReadingPathLemmas.readings_lead_to_the_end
