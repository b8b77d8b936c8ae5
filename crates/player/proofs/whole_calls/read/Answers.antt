use Rattle.record.specs.Steps.{Step}
use Rattle.player.proofs.WholeCallLemmas.{told}
use Rattle.player.proofs.whole_calls.read.Goals as goal

pub returns : goal.returns
returns c = told _ _ _ _ _ _ _ (Step.CallRead _) c.read.result _ c.read.ensures c.of_whole.ensures
