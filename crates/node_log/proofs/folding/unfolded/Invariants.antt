-- Zeros stand behind the folded bytes so far, and then the folded bytes were added so far.
use Rattle.std.proofs.Common.{◌≡◌, ◌+◌, ◌<◌, ◌≤◌, ℕ, length, bit_xor}
use Rattle.node_log.specs.Folding.{over_powers}
use Rattle.node_log.proofs.FoldLemmas.{at}
use Rattle.node_log.proofs.folding.unfolded.Given as goal

abbrev pub invariant-loop-i : goal.invariant-loop-i
invariant-loop-i l =
    (length l.folded ≡ 1461)
    × ((j : ℕ) → j < 437 → at l.folded j ≡ at l.fn.folded j)
    × ((j : ℕ) → 437 ≤ j → j < l.i → at l.folded j ≡ 0)

abbrev pub invariant-loop-i-2 : goal.invariant-loop-i-2
invariant-loop-i-2 l =
    (length l.unfolded ≡ 437)
    × ((j : ℕ) → j < l.i → at l.unfolded j ≡ bit_xor (at l.bytes j) (over_powers (λ (s : ℕ). at l.folded (j + s))))
