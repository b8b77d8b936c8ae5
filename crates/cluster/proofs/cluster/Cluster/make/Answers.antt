use Rattle.std.proofs.Common.{ap}
use Rattle.register.specs.Act.{act_cause}
use Rattle.cluster.specs.Causes.{next, if_object}
use Rattle.cluster.proofs.ActLemmas.{act_some}
use Rattle.cluster.proofs.cluster.Cluster.make.Goals as goal

pub returns-in_default-clause-cause : goal.returns-in_default-clause-cause
returns-in_default-clause-cause c =
    act_some _ c.args.act (ap (λ o. if_object o (act_cause c.args.act (next c.args.self.now))) c.in_default.ensures)
