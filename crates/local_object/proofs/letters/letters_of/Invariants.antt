use Rattle.std.proofs.Common.{◌≡◌, map}
use Rattle.local_object.specs.Letters.{letter_in}
use Rattle.local_object.proofs.letters.letters_of.Given as goal

abbrev pub invariant-loop-message : goal.invariant-loop-message
invariant-loop-message l = l.letters.items ≡ map (letter_in l.places l.start l.asks_piece l.layout) l.yielded
