use Rattle.std.proofs.Common.{get_or, ap, sym, ◌∙◌}
use Rattle.gf256.specs.Field.{field_product}
use Rattle.gf256.proofs.FieldLemmas.{product-zero_left}
use Rattle.gf256.proofs.LinearCombinationLemmas.{get_or-scaled}
use Rattle.kernels.proofs.LaneSumLemmas.{get_or-zeros}
use Rattle.kernels.proofs.line.product.Goals as goal
use Rattle.kernels.proofs.line.product.Goals.{then-zero, else-zero}

pub returns : goal.returns
returns c i hi = elim c.if-zero.branch [
  | then-zero w ↦
      ap (λ xs. get_or xs i 0) w.result-is ∙ get_or-zeros 32 i
      ∙ sym (ap (λ k. field_product k (get_or c.args.lanes i 0)) (c.requires w.if-zero.true)
      ∙ product-zero_left (get_or c.args.lanes i 0))
  | else-zero w ↦
      ap (λ xs. get_or xs i 0) (w.result-is ∙ w.times.ensures) ∙ get_or-scaled c.args.coefficient.now c.args.lanes i
]
