use Rattle.std.proofs.Common.{None, ap, sym}
use Rattle.cluster.specs.Causes.{if_object}
use Rattle.cluster.proofs.NamedObjectPlaceLemmas.{object_there}
use Rattle.cluster.proofs.cluster.Cluster.place.Goals as goal

pub returns-in-Some-clause-place : goal.returns-in-Some-clause-place
returns-in-Some-clause-place c = sym c.in-Some.ensures.0

pub returns-in-Some-clause-cause : goal.returns-in-Some-clause-cause
returns-in-Some-clause-cause c =
    let there = object_there c.args.self.now c.args.name.now c.in-Some.object c.in-Some.ensures in
    ap (λ o. if_object o (λ object. None)) there.1

pub returns-in-None-clause-cause : goal.returns-in-None-clause-cause
returns-in-None-clause-cause c = ap (λ o. if_object o (λ object. None)) c.in-None.ensures
