use Rattle.std.proofs.Common.{◌≤◌, ◌-◌}
use Rattle.tag.specs.declared.limits.TheConstants.{MOST_STEPS}
use Rattle.player.specs.Deliver.{Delivers, NoneBefore}
use Rattle.player.proofs.mail_commands.handle_all.Given as goal

abbrev pub invariant-loop-place : goal.invariant-loop-place
invariant-loop-place l = record {
  delivers : Delivers l.name l.initial.cluster l.handled l.cluster;
  none_before : NoneBefore l.cluster l.name l.from;
  few : l.handled ≤ l.cluster.counter;
}

abbrev pub decreases-loop-place : goal.decreases-loop-place
decreases-loop-place l = MOST_STEPS - l.cluster.counter
