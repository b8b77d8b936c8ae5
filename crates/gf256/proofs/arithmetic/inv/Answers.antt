use Rattle.std.proofs.Common.{arith}
use Rattle.gf256.proofs.LogarithmTableLemmas.{product-of_inverse_power}
use Rattle.gf256.proofs.arithmetic.inv.Goals as goal

pub returns : goal.returns
returns c = grind (arith, product-of_inverse_power)
