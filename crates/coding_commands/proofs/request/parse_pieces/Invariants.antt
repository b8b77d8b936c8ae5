use Rattle.std.proofs.Common.{map, take}
use Rattle.coding_commands.specs.Request.{SpellPieces}
use Rattle.coding_commands.proofs.request.parse_pieces.Given as goal

abbrev pub invariant-loop-word : goal.invariant-loop-word
invariant-loop-word l = SpellPieces l.len (map (λ w. w.now) (take l.word-index l.words)) l.pieces.items
