-- The parts so far stand at the front of the output, which has kept its length.
use Rattle.std.proofs.Common.{◌≡◌, length, take}
use Rattle.std.specs.List.{concat}
use Rattle.node_handle.proofs.copying.write_bytes.Given as goal

abbrev pub invariant-loop-part : goal.invariant-loop-part
invariant-loop-part l =
    (length l.out ≡ length l.fn.out) × (l.count ≡ length (concat (take l.part-index l.parts)))
    × (take l.count l.out ≡ concat (take l.part-index l.parts))
