use Rattle.std.proofs.Common.{arith}
use Rattle.gf256.proofs.FieldLemmas.{product_assoc, product-one_right}
use Rattle.gf256.proofs.arithmetic.div.Goals as goal

pub returns : goal.returns
returns c = grind (arith, product-one_right, product_assoc)
