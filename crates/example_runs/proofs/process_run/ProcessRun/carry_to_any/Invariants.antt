-- The frame is to none of the nodes before this one, and nothing has changed.
use Rattle.std.proofs.Common.{◌≡◌}
use Rattle.example_runs.specs.Steps.{IsToNone}
use Rattle.example_runs.proofs.process_run.ProcessRun.carry_to_any.Given as goal

abbrev pub invariant-loop-number : goal.invariant-loop-number
invariant-loop-number l = IsToNone l.place l.number l.self × (l.self ≡ l.fn.self)
