use Rattle.call.proofs.ReadingPathLemmas
use Rattle.call.proofs.readings_are_stages.Goals as goal

pub returns : goal.returns
returns c = ReadingPathLemmas.readings_are_stages
