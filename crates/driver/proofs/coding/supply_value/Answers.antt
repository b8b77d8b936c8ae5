use Rattle.std.proofs.Common.{ap, ◌∙◌}
use Rattle.register.specs.Causes.{supply_cause}
use Rattle.cluster.specs.Causes.{next, object_cause}
use Rattle.driver.proofs.CodingJobLemmas.{supply_same}
use Rattle.driver.proofs.NamedObjectLemmas.{by_cause}
use Rattle.encoder.specs.Coded.{Coding}
use Rattle.driver.proofs.coding.supply_value.Goals as goal

pub returns-clause-cause : goal.returns-clause-cause
returns-clause-cause c =
    by_cause _ _ c.supply_at.result
    (ap (λ (d : Coding). object_cause c.args.cluster.now c.args.name.now
    (λ object. supply_cause (next c.args.cluster.now) object c.args.call d)) c.in_ok-coded.ensures.coded
    ∙ supply_same c.args.cluster.now c.args.name.now c.args.call c.args.k c.args.n c.args.value c.requires.value)
    c.supply_at.ensures.cause
