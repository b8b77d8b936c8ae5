use Rattle.std.proofs.Common.{◌≡◌, take}
use Rattle.player.proofs.cluster_commands.members_of.Given as goal

abbrev pub invariant-loop-member : goal.invariant-loop-member
invariant-loop-member l = l.servers_of.items ≡ take l.member-index l.members
