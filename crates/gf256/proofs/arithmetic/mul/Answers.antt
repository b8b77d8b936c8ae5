use Rattle.std.proofs.Common.{arith}
use Rattle.gf256.proofs.FieldLemmas.{product-zero_left, product-zero_right}
use Rattle.gf256.proofs.LogarithmTableLemmas.{product_of_powers}
use Rattle.gf256.proofs.arithmetic.mul.Goals as goal
use Rattle.gf256.proofs.arithmetic.mul.Goals.{then-a-eq0-via-then-a-eq0, then-a-eq0-via-else-a-eq0+then-b-eq0}

pub returns-then-a-eq0 : goal.returns-then-a-eq0
returns-then-a-eq0 c = grind (arith, product-zero_left, product-zero_right, then-a-eq0-via-else-a-eq0+then-b-eq0, then-a-eq0-via-then-a-eq0)

pub returns : goal.returns
returns c = grind (arith, product_of_powers)
