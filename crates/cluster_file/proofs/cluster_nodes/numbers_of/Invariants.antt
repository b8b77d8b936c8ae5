use Rattle.std.proofs.Common.{◌≡◌, map, take}
use Rattle.cluster_file.specs.declared.scored.Scored.{Scored}
use Rattle.cluster_file.proofs.cluster_nodes.numbers_of.Given as goal

abbrev pub invariant-loop-entry : goal.invariant-loop-entry
invariant-loop-entry l = l.numbers.items ≡ map (λ (s : Scored). s.node) (take l.entry-index l.scored)
