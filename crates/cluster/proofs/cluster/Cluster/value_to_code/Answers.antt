use Rattle.std.proofs.Common.{inl}
use Rattle.register.specs.Causes.{value_cause}
use Rattle.cluster.proofs.FoundObjectLemmas.{none_at}
use Rattle.cluster.proofs.cluster.Cluster.value_to_code.Goals as goal

pub returns-in-Some : goal.returns-in-Some
returns-in-Some c = record { value = c.value_to_code_at.ensures.value; cause = c.value_to_code_at.ensures.cause }

pub returns-in-None-clause-cause : goal.returns-in-None-clause-cause
returns-in-None-clause-cause c = inl (none_at c.args.self.now c.args.name.now (λ object. value_cause object c.args.call) c.in-None.ensures)
