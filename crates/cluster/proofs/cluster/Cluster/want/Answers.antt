use Rattle.register.specs.Causes.{number_cause}
use Rattle.cluster.proofs.FoundObjectLemmas.{none_at}
use Rattle.cluster.proofs.cluster.Cluster.want.Goals as goal

pub returns-in-Some : goal.returns-in-Some
returns-in-Some c = record { want = c.want_at.ensures.want; cause = c.want_at.ensures.cause }

pub returns-in-None-clause-cause : goal.returns-in-None-clause-cause
returns-in-None-clause-cause c = none_at c.args.self.now c.args.name.now (λ object. number_cause object c.args.call) c.in-None.ensures
