-- The entries among the outputs so far were taken out.
use Rattle.std.proofs.Common.{◌≡◌}
use Rattle.node_effects.specs.Work.{entries_in}
use Rattle.node_effects.proofs.work.Work.into_entries.Given as goal

abbrev pub invariant-loop-output : goal.invariant-loop-output
invariant-loop-output l = l.entries.items ≡ entries_in l.yielded
