use Rattle.std.proofs.Common.{◌≡◌, subst, rules}
use Rattle.std.specs.List.{AllByRecursion}
use Rattle.std.specs.Map.{values_of}
use Rattle.layout.specs.Layout.{IsLawful}
use Rattle.cluster.specs.Cluster.{Cluster}
use Rattle.cluster.proofs.AllObjectsLemmas.{all_done}
use Rattle.cluster.proofs.LookupLemmas.{objects_of}
use Rattle.cluster.proofs.PreconditionLemmas.{IsAllowing, allowed_act, allowed_move, allowed_retire, allowed_serve}
use Rattle.cluster.proofs.cluster.Cluster.allowed_steps_may_be_made.Goals as goal

each : (c : goal.In-None) → AllByRecursion (λ o. IsAllowing o.state) (objects_of c.self.inside.objects.entries)
each c =
    let held = c.self.inside.objects.entries in
    let start : c.into_iter-register-iterator.result ≡ values_of held =
    cc (c.into_iter-register-iterator.ensures.into_iter_gives, c.values-register-items.ensures.rest) in
    all_done IsAllowing held c.into_iter-register-iterator.result c.loop-register.register-iterator c.loop-register.invariant start
    c.in-None.ensures.steps.0

-- of each object of the cluster
every : (c : goal.In-None) → AllByRecursion (λ o. IsAllowing o.state) c.args.self.now.objects
every c = subst (λ (k : Cluster). AllByRecursion (λ o. IsAllowing o.state) k.objects) c.self.view_is (each c)

pub returns-clause-acts : goal.returns-clause-acts
returns-clause-acts c name act lawful none = allowed_act c.args.self.now name (every c) act lawful none

pub returns-clause-moves : goal.returns-clause-moves
returns-clause-moves c name id none =
    allowed_move c.args.self.now name (every c)
    (subst (λ (k : Cluster). AllByRecursion IsLawful k.layouts) c.self.view_is
    (subst (AllByRecursion IsLawful) c.deref.ensures.value c.are_lawful.ensures)) id none

pub returns-clause-serves : goal.returns-clause-serves
returns-clause-serves c name place none = allowed_serve c.args.self.now name place none

pub returns-clause-retires : goal.returns-clause-retires
returns-clause-retires c name position none = allowed_retire c.args.self.now name (every c) position none

pub loop-register-preserved : goal.loop-register-preserved
loop-register-preserved c = search rules
