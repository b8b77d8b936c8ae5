use Rattle.std.proofs.Common.{◌≡◌, sum_by, take, sym, ap, arith, ◌+◌, ◌∙◌}
use Rattle.std.proofs.lemmas.List.Sums.{sum_by_more}
use Rattle.node_keeper.specs.Sizes.{place_closed}
use Rattle.node_keeper.proofs.objects.sizes.closed_in.Goals as goal

pub loop-place-preserved : goal.loop-place-preserved
loop-place-preserved c =
    let places = c.args.places.now in
    let i = c.loop-place.place-index in
    let before = sum_by place_closed (take i places) in
    let grown : sum_by place_closed (take (i + 1) places) ≡ before + place_closed c.place-item.result =
    sum_by_more place_closed places i c.place-item.result c.loop-place-test.true
    ∙ ap (λ p. before + place_closed p) (sym c.place-item.is) in
    omega (arith, c.loop-place.invariant, c.closed_of.ensures, c.saturating_add-closed.ensures, grown)
