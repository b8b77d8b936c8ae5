-- What was read so far are zeros.
use Rattle.node_log.proofs.ZeroLemmas.{ZerosSoFar}
use Rattle.node_log.proofs.input.has_only_zeros.Given as goal

abbrev pub invariant-loop : goal.invariant-loop
invariant-loop g l = ZerosSoFar (g.R.Read.remaining l.fn.reader) (g.R.Read.remaining l.reader)
