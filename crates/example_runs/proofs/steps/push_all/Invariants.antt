-- The notices so far were noted.
use Rattle.std.proofs.Common.{◌≡◌, ◌++◌}
use Rattle.example_runs.proofs.steps.push_all.Given as goal

abbrev pub invariant-loop-notice : goal.invariant-loop-notice
invariant-loop-notice l = l.seen.items ≡ l.fn.seen.items ++ l.yielded
