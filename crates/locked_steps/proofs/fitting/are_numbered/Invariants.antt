use Rattle.std.proofs.Common.{◌≡◌, ◌<◌, ◌==◌, ℕ}
use Rattle.std.specs.Prelude.{count_by}
use Rattle.locked_steps.proofs.fitting.are_numbered.Given as goal

abbrev pub invariant-loop-number : goal.invariant-loop-number
invariant-loop-number g l = (k : ℕ) → k < l.number → count_by (λ s. s.number == k) l.seats ≡ 1
