use Rattle.history.proofs.PairwiseByPlaceLemmas.{ApartBelow}
use Rattle.history.proofs.certificate.has_no_repeat.Given as goal

abbrev pub invariant-loop-place : goal.invariant-loop-place
invariant-loop-place l = ApartBelow l.order l.place
