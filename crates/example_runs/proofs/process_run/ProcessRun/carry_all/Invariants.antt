-- So many frames came, one after another, and the run is still one of processes.
use Rattle.std.proofs.Common.{◌≡◌, ◌+◌}
use Rattle.example_runs.specs.Reached.{IsReached}
use Rattle.example_runs.specs.Steps.{AreBroughtIn}
use Rattle.example_runs.proofs.process_run.ProcessRun.carry_all.Given as goal

abbrev pub invariant-loop-count : goal.invariant-loop-count
invariant-loop-count l = (l.place ≡ l.fn.first + l._count) × AreBroughtIn l._count l.fn.first l.fn.self l.self
    × (IsReached l.fn.self → IsReached l.self)
