use Rattle.std.proofs.Common.{length}
use Rattle.client_commands.proofs.patterns.+row_of.Given as goal

abbrev pub decreases-row_of : goal.decreases-row_of
decreases-row_of l = length l.parts.now
