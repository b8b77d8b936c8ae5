use Rattle.starts.proofs.FinalPointerLemmas.{finals_stay_final}
use Rattle.starts.proofs.finals_stay.Goals as goal

pub returns : goal.returns
returns c = finals_stay_final
