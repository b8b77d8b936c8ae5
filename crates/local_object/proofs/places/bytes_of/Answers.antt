use Rattle.std.proofs.Common.{sum_by, take, sym, ap, ◌+◌, ◌∙◌}
use Rattle.std.proofs.lemmas.List.Sums.{sum_by_more}
use Rattle.local_object.specs.Changing.{place_bytes}
use Rattle.local_object.proofs.CappedSumLemmas.{capped_more}
use Rattle.local_object.proofs.places.bytes_of.Goals as goal

pub loop-place-preserved : goal.loop-place-preserved
loop-place-preserved c =
    let places = c.args.places.now in
    let i = c.loop-place.place-index in
    let place = c.place-item.result in
    capped_more c.loop-place.total (sum_by place_bytes (take i places)) c.bytes.result (place_bytes place) _ _
    c.loop-place.invariant c.bytes.ensures c.saturating_add-total.ensures
    (sum_by_more place_bytes places i place c.loop-place-test.true
    ∙ ap (λ p. sum_by place_bytes (take i places) + place_bytes p) (sym c.place-item.is))
