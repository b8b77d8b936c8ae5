use Rattle.std.proofs.Common.{◌≡◌, length}
use Rattle.exports.proofs.FollowsLemmas.{Follows}
use Rattle.exports.proofs.clients.assign.Given as goal

abbrev pub invariant-loop-entry : goal.invariant-loop-entry
invariant-loop-entry l = record {
  count : length l.processes.items ≡ l.entry-index;
  follows : Follows l.entries l.processes.items l.clients.items;
}
