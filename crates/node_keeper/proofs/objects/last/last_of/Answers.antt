use Rattle.std.proofs.Common.{◌≡◌, ◌+◌, cond, ltb, take, ap, sym, ◌∙◌, add-one}
use Rattle.local_object.specs.Local.{greatest_position}
use Rattle.local_object.proofs.PlaceLemmas.{greatest_more}
use Rattle.node_keeper.proofs.objects.last.last_of.Goals as goal

pub loop-place-preserved : goal.loop-place-preserved
loop-place-preserved c =
    let places = c.args.places.now in
    let i = c.loop-place.place-index in
    let before = greatest_position (take i places) 0 in
    let place = c.place-item.result in
    let more : greatest_position (take (i + 1) places) 0 ≡ cond (ltb before place.position) place.position before =
    rw add-one (greatest_more places i 0 c.place-item.result c.loop-place-test.true c.place-item.is) in
    c.later-greatest.ensures
    ∙ ap (λ g. cond (ltb g c.position.result) c.position.result g) c.loop-place.invariant
    ∙ ap (λ n. cond (ltb before n) n before) c.position.ensures
    ∙ sym more
