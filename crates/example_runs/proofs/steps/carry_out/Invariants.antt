-- The outputs so far were carried out.
use Rattle.std.proofs.Common.{◌≡◌, ◌++◌}
use Rattle.node_effects.specs.Work.{entries_in}
use Rattle.example_runs.specs.Members.{HasGrown, frames_from}
use Rattle.example_runs.proofs.steps.carry_out.Given as goal

abbrev pub invariant-loop-output : goal.invariant-loop-output
invariant-loop-output l = HasGrown (entries_in l.yielded) l.fn.member l.member
    × (l.sent.items ≡ l.fn.sent.items ++ frames_from l.number l.yielded)
