use Rattle.register.specs.Causes.{supplying_cause}
use Rattle.cluster.specs.Causes.{next}
use Rattle.cluster.proofs.FoundObjectLemmas.{none_at}
use Rattle.cluster.proofs.cluster.Cluster.may_supply.Goals as goal

pub returns-in-Some : goal.returns-in-Some
returns-in-Some c = record { cause = c.may_supply_at.ensures.cause }

pub returns-in-None : goal.returns-in-None
returns-in-None c = record {
  cause = none_at c.args.self.now c.args.name.now (λ object. supplying_cause (next c.args.self.now) object c.args.call)
      c.in-None.ensures;
}
