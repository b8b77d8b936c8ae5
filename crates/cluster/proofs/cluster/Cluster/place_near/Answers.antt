use Rattle.std.proofs.Common.{None, ap}
use Rattle.cluster.specs.Causes.{if_object}
use Rattle.cluster.proofs.NamedObjectPlaceLemmas.{object_there}
use Rattle.cluster.proofs.cluster.Cluster.place_near.Goals as goal

pub returns-then-is_named_at-clause-cause : goal.returns-then-is_named_at-clause-cause
returns-then-is_named_at-clause-cause c =
    let there = object_there c.args.self.now c.args.name.now c.args.guess (c.is_named_at.ensures c.if-is_named_at.true) in
    ap (λ o. if_object o (λ object. None)) there.1
