use Rattle.node.proofs.AnewLemmas.{own_distinct}
use Rattle.node.proofs.laws.own_calls_are_distinct.Goals as goal

pub returns : goal.returns
returns c = own_distinct
