use Rattle.starts.proofs.ShownFinalLemmas.{spreads_show_final}
use Rattle.starts.proofs.complete_spreads_are_final.Goals as goal

pub returns : goal.returns
returns c = spreads_show_final
