use Rattle.std.proofs.Common.{map, take}
use Rattle.script.specs.Arguments.{AreNumbers}
use Rattle.script.proofs.values.numbers.Given as goal

abbrev pub invariant-loop-word : goal.invariant-loop-word
invariant-loop-word l = AreNumbers l.numbers.items (map (λ w. w.now) (take l.word-index l.words))
