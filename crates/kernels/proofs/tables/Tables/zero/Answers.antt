use Rattle.std.proofs.Common.{refl}
use Rattle.gf256.specs.Field.{field_product, polynomial_product, remainder}
use Rattle.kernels.proofs.tables.Tables.zero.Goals as goal

pub invariant_of-result : goal.invariant_of-result
unfolding field_product polynomial_product remainder
invariant_of-result c = refl
