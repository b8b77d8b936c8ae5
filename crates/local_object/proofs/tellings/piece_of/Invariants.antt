use Rattle.std.proofs.Common.{◌≡◌}
use Rattle.std.specs.FinMap as map
use Rattle.std.specs.FinMap.Entries.{find}
use Rattle.tag.specs.Tag.{tag_cmp}
use Rattle.local_object.proofs.tellings.piece_of.Given as goal

abbrev pub invariant-loop-known : goal.invariant-loop-known
invariant-loop-known l = find tag_cmp l.tag l.known-iterator ≡ map.get l.bank.rows l.tag
