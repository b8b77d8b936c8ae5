use Rattle.std.proofs.Common.{◌≡◌, ◌++◌, map}
use Rattle.object_letters.specs.Letters.{letter_to}
use Rattle.object_letters.proofs.letters.push_bank.Given as goal

abbrev pub invariant-loop-request : goal.invariant-loop-request
invariant-loop-request l = l.letters.items ≡ l.initial.letters.items ++ map (letter_to l.local l.place l.member) l.yielded
