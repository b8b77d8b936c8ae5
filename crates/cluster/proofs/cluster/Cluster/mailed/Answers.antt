use Rattle.std.proofs.Common.{ap, ◌∙◌, arith}
use Rattle.cluster.specs.Accounts.{waiting_bytes}
use Rattle.cluster.specs.Cluster.{Cluster}
use Rattle.cluster.proofs.RunningSumLemmas.{waiting_within}
use Rattle.cluster.proofs.cluster.Cluster.mailed.Goals as goal

pub returns-clause-value : goal.returns-clause-value
returns-clause-value c = c.self.invariant.summed.mailed ∙ ap (λ (k : Cluster). waiting_bytes k) c.self.view_is

pub returns-clause-within : goal.returns-clause-within
returns-clause-within c = let within = waiting_within c.self.invariant in omega (arith, within)
