use Rattle.std.proofs.Common.{refl, arith}
use Rattle.history.proofs.PairwiseByPlaceLemmas.{distinct_from_places, places_from_distinct}
use Rattle.history.proofs.certificate.has_no_repeat.Goals as goal

pub returns-then-not-is_new : goal.returns-then-not-is_new
returns-then-not-is_new c = (
  (λ f. absurd (cc)),
  (λ distinct.
      let t = c.is_new.ensures.1
      (λ earlier h. places_from_distinct c.args.order.now distinct earlier c.loop-place.place h c.loop-place-test.true) in
      cc),
)

pub returns : goal.returns
returns c = (
  (λ t. distinct_from_places c.args.order.now (λ earlier later h k. c.loop-place.invariant earlier later h (omega arith))),
  (λ distinct. refl),
)
