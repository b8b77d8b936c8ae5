use Rattle.std.proofs.Common.{◌≡◌, take}
use Rattle.object_letters.specs.Letters.{places_letters}
use Rattle.object_letters.proofs.letters.letters_of.Given as goal

abbrev pub invariant-loop-place : goal.invariant-loop-place
invariant-loop-place l = l.letters.items ≡ places_letters l.number l.local (take l.place-index l.local.places)
