use Rattle.cluster.proofs.RunningSumLemmas.{new_counted}
use Rattle.cluster.proofs.cluster.Cluster.new.Goals as goal

pub invariant_of-result : goal.invariant_of-result
invariant_of-result c = new_counted c.args.servers c.new.ensures c.new-2.ensures.items c.new-3.ensures.empty c.new-4.ensures
