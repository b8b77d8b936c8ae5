use Rattle.std.proofs.Common.{◌≡◌, ap, sym, ◌∙◌, arith}
use Rattle.gf256.specs.Field.{field_product, field_power}
use Rattle.gf256.proofs.FieldLemmas.{product-one_left, product-one_right, power_lt, power-zero}
use Rattle.gf256.proofs.LoopStepLemmas.{power_half_even, power_half_odd}
use Rattle.gf256.proofs.arithmetic.pow.Goals as goal
use Rattle.gf256.proofs.arithmetic.pow.Goals.{then-left-eq1, else-left-eq1}

pub loop-left-init : goal.loop-left-init
loop-left-init c = grind (arith, power_lt, product-one_left)

pub loop-left-preserved : goal.loop-left-preserved
loop-left-preserved c = grind (arith, else-left-eq1, power_half_even, power_half_odd, then-left-eq1)

pub returns : goal.returns
returns c =
    let none : c.loop-left.left ≡ 0 = omega arith in
    sym (product-one_right c.loop-left.product c.loop-left.invariant.product_fits)
    ∙ ap (field_product c.loop-left.product) (sym (ap (field_power c.loop-left.base) none ∙ power-zero c.loop-left.base))
    ∙ c.loop-left.invariant.value
