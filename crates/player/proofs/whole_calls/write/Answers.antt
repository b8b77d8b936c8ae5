use Rattle.record.specs.Steps.{Step}
use Rattle.player.proofs.WholeCallLemmas.{told}
use Rattle.player.proofs.whole_calls.write.Goals as goal

pub returns : goal.returns
returns c = told _ _ _ _ _ _ _ (Step.CallWrite _ c.args.value) c.write.result _ c.write.ensures c.of_whole.ensures
