use Rattle.std.proofs.Common.{None}
use Rattle.cluster.proofs.FoundObjectLemmas.{IsFound, cause_found, none_at}
use Rattle.cluster.proofs.cluster.Cluster.register.Goals as goal

pub returns-in-Some : goal.returns-in-Some
returns-in-Some c =
    let found : IsFound c.args.self.now c.args.name.now c.register_at.result.now = record { here = c.register_at.ensures } in
    record { object = c.register_at.ensures; cause = cause_found found (λ object. None) }

pub returns-in-None-clause-cause : goal.returns-in-None-clause-cause
returns-in-None-clause-cause c = none_at c.args.self.now c.args.name.now (λ object. None) c.in-None.ensures
