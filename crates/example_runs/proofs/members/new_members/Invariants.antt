-- None of the processes so far was started.
use Rattle.std.specs.List.{AllByRecursion}
use Rattle.example_runs.specs.Members.{IsNewMember}
use Rattle.example_runs.proofs.members.new_members.Given as goal

abbrev pub invariant-loop : goal.invariant-loop
invariant-loop l = AllByRecursion IsNewMember l.members.items
