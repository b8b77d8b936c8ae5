use Rattle.std.proofs.Common.{ℕ, List, map, Bor}
use Rattle.player.proofs.ScriptRunLemmas.{IsPlayedSoFar}
use Rattle.player.proofs.run.play_lines.Given as goal

abbrev pub invariant-loop-index : goal.invariant-loop-index
invariant-loop-index g l =
    IsPlayedSoFar (map (λ (line : Bor (List ℕ)). line.now) l.lines) l.index l.cluster (g.O.Write.contents l.initial.out)
    (g.O.Write.contents l.out)
