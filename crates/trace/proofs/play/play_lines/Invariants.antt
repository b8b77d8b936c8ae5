use Rattle.std.proofs.Common.{ℕ, List, None, map, Bor}
use Rattle.player.proofs.ScriptRunLemmas.{IsPlayedSoFar}
use Rattle.trace.proofs.play.play_lines.Given as goal

abbrev pub invariant-loop-index : goal.invariant-loop-index
invariant-loop-index l = IsPlayedSoFar (map (λ (line : Bor (List ℕ)). line.now) l.lines) l.index l.cluster None None
