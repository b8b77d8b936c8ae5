use Rattle.std.proofs.Common.{◌≤◌, length}
use Rattle.mail.proofs.bounds.first_at_least.Given as goal

abbrev pub invariant-loop-first : goal.invariant-loop-first
invariant-loop-first l = l.first ≤ length l.bounds

abbrev pub decreases-loop-first : goal.decreases-loop-first
decreases-loop-first l = l.first
