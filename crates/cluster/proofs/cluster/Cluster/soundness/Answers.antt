use Rattle.std.proofs.Common.{◌≡◌, subst, rules}
use Rattle.std.specs.List.{AllByRecursion}
use Rattle.std.specs.Map.{values_of}
use Rattle.encoder.specs.Fragment.{fragment}
use Rattle.soundness.specs.Sound.{IsSound}
use Rattle.register.specs.Kept.{IsWithinLimits}
use Rattle.cluster.specs.Accounts.{banks_all, calls}
use Rattle.cluster.specs.Atomic.{AreSound, AreWithinLimits}
use Rattle.cluster.specs.Cluster.{Cluster}
use Rattle.cluster.specs.Kept.{IsKeptCluster}
use Rattle.cluster.proofs.AllObjectsLemmas.{IsObjectSound, all_done, all_weaker}
use Rattle.cluster.proofs.LookupLemmas.{objects_of}
use Rattle.cluster.proofs.ObjectStepLemmas.{cluster_of}
use Rattle.cluster.proofs.cluster.Cluster.soundness.Goals as goal

each : (c : goal.In-None) → AllByRecursion (λ o. IsObjectSound o.state) (objects_of c.self.inside.objects.entries)
each c =
    let held = c.self.inside.objects.entries in
    let start : c.into_iter-register-iterator.result ≡ values_of held =
    cc (c.into_iter-register-iterator.ensures.into_iter_gives, c.values-register-items.ensures.rest) in
    all_done IsObjectSound held c.into_iter-register-iterator.result c.loop-register.register-iterator c.loop-register.invariant start
    c.in-None.ensures.steps.0

pub returns-clause-sound : goal.returns-clause-sound
returns-clause-sound c =
    subst AreSound c.self.view_is
    (all_weaker IsObjectSound (λ s. IsSound fragment s.object s.last)
    (λ s held. held.sound) (objects_of c.self.inside.objects.entries) (each c))

pub returns-clause-limits : goal.returns-clause-limits
returns-clause-limits c =
    subst AreWithinLimits c.self.view_is
    (all_weaker IsObjectSound (λ s. IsWithinLimits s.object) (λ s held. held.limits) (objects_of c.self.inside.objects.entries) (each c))

pub returns-clause-kept : goal.returns-clause-kept
returns-clause-kept c =
    let kept = c.self.invariant.kept in
    let now = cluster_of c.self.inside.servers c.self.inside.layouts.items c.self.inside.objects.entries c.self.inside.counter in
    subst (λ (k : Cluster). IsKeptCluster k (banks_all k.objects) (calls k.objects)) c.self.view_is
    (subst (λ n. IsKeptCluster now (banks_all now.objects) n) kept.called
    (subst (λ n. IsKeptCluster now n c.self.inside.called) kept.stored kept))

pub loop-register-preserved : goal.loop-register-preserved
loop-register-preserved c = search rules
