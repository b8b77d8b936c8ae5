-- The bytes of the state so far, with zeros behind them.
use Rattle.std.proofs.Common.{◌≡◌, ◌<◌, ◌≤◌, ℕ, length}
use Rattle.node_log.proofs.FoldLemmas.{at}
use Rattle.node_log.proofs.folding.folded_state.Given as goal

abbrev pub invariant-loop-i : goal.invariant-loop-i
invariant-loop-i l =
    (length l.folded ≡ 1461)
    × ((j : ℕ) → j < l.i → at l.folded j ≡ at l.low j)
    × ((j : ℕ) → l.i ≤ j → at l.folded j ≡ 0)
