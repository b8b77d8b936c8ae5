use Rattle.std.proofs.Common.{refl, arith}
use Rattle.node_keeper.proofs.HeardNameLemmas.{all_led}
use Rattle.node_keeper.proofs.keeper.Keeper.may_rewrite.Goals as goal

pub returns : goal.returns
returns c = (
  λ passes. all_led c.args.self.now
      (λ i name less at. c.loop-index.invariant i name (let all = c.count-index-end.ensures.count in omega (arith, all)) at),
  λ able. refl,
)
