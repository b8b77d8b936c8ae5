use Rattle.std.specs.List.{AllByRecursion}
use Rattle.cluster.proofs.AllObjectsLemmas.{IsObjectSound}
use Rattle.cluster.proofs.cluster.Cluster.soundness.Given as goal

abbrev pub invariant-loop-register : goal.invariant-loop-register
invariant-loop-register l = AllByRecursion IsObjectSound l.register-iterator → AllByRecursion IsObjectSound l.initial.register-iterator
