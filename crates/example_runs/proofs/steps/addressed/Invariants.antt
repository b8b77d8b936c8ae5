-- The strings so far stand behind the address.
use Rattle.std.proofs.Common.{◌≡◌, ◌∷◌, take}
use Rattle.example_runs.proofs.steps.addressed.Given as goal

abbrev pub invariant-loop-string : goal.invariant-loop-string
invariant-loop-string l = l.all.items ≡ l.fn.address ∷ take l.string-index l.strings
