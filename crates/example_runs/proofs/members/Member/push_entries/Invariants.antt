-- The log got the entries so far.
use Rattle.std.proofs.Common.{take}
use Rattle.example_runs.specs.Members.{HasGrown}
use Rattle.example_runs.proofs.members.Member.push_entries.Given as goal

abbrev pub invariant-loop-entry : goal.invariant-loop-entry
invariant-loop-entry l = HasGrown (take l.entry-index l.entries) l.fn.self l.self
