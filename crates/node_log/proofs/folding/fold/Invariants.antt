-- The folded bytes stand for the state after the bytes so far.
use Rattle.std.proofs.Common.{◌≡◌, length}
use Rattle.node_log.proofs.FoldLemmas.{FoldsSoFar}
use Rattle.node_log.proofs.folding.fold.Given as goal

abbrev pub invariant-loop-i : goal.invariant-loop-i
invariant-loop-i l = (length l.folded ≡ 1461) × FoldsSoFar l.fn.folded l.fn.bytes l.i l.folded
