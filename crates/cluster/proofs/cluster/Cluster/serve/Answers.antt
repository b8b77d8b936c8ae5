use Rattle.std.proofs.Common.{inl, ap, rules}
use Rattle.cluster.specs.Causes.{if_object, serving_cause}
use Rattle.cluster.proofs.cluster.Cluster.serve.Goals as goal

pub returns-in_default-clause-cause : goal.returns-in_default-clause-cause
returns-in_default-clause-cause c =
    inl (ap (λ o. if_object o (serving_cause c.args.self.now c.args.place)) c.in_default.ensures)

pub returns-clause-step : goal.returns-clause-step
returns-clause-step c = search rules
