use Rattle.std.specs.List.{AllByRecursion}
use Rattle.cluster.proofs.PreconditionLemmas.{IsAllowing}
use Rattle.cluster.proofs.cluster.Cluster.allowed_steps_may_be_made.Given as goal

abbrev pub invariant-loop-register : goal.invariant-loop-register
invariant-loop-register l = AllByRecursion IsAllowing l.register-iterator → AllByRecursion IsAllowing l.initial.register-iterator
