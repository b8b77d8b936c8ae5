use Rattle.poly.specs.Basis.{IsProduct}
use Rattle.poly.proofs.product.fill_product.Given as goal

abbrev pub invariant-loop-point : goal.invariant-loop-point
invariant-loop-point l = IsProduct l.points l.point-index l.product.items
