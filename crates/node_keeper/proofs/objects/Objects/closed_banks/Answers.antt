use Rattle.std.proofs.lemmas.Grind.{common_steps}
use Rattle.std.proofs.Common.{◌≡◌, arith, ap, sum_by}
use Rattle.std.specs.Map.Iter.{deref}
use Rattle.std.proofs.lemmas.Map.Iter.{rest_all}
use Rattle.node_keeper.specs.Sizes.{closed_at_places}
use Rattle.node_keeper.proofs.objects.Objects.closed_banks.Goals as goal

pub returns : goal.returns
returns c =
    let none : sum_by closed_at_places c.loop-object.object-iterator ≡ 0 =
    ap (sum_by closed_at_places) (rest_all deref _ _ _ c.in-None.is c.next.ensures.steps) in
    omega (arith, c.loop-object.invariant.0, c.loop-object.invariant.1, none)

pub loop-object-preserved : goal.loop-object-preserved
loop-object-preserved c = grind (arith, common_steps)
