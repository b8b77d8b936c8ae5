-- The notices so far were noted, those of calls that begin as seen, and the answers behind the others.
use Rattle.std.proofs.Common.{◌≡◌, ◌++◌}
use Rattle.std.specs.List.{filter}
use Rattle.node_effects.specs.Seen.{all_seen}
use Rattle.processes.specs.Events.{is_begun, is_told}
use Rattle.example_runs.proofs.steps.note_all.Given as goal

abbrev pub invariant-loop-notice : goal.invariant-loop-notice
invariant-loop-notice l = (all_seen l.seen.items ≡ all_seen l.fn.seen.items ++ filter is_begun (all_seen l.yielded))
    × (all_seen l.told.items ≡ all_seen l.fn.told.items ++ filter is_told (all_seen l.yielded))
