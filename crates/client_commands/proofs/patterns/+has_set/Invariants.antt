use Rattle.std.proofs.Common.{length}
use Rattle.client_commands.proofs.patterns.+has_set.Given as goal

abbrev pub decreases-has_set : goal.decreases-has_set
decreases-has_set l = length l.pattern.now
