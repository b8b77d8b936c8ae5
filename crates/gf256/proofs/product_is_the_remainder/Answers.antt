use Rattle.gf256.proofs.RemainderLemmas.{IsRemainder-field_product}
use Rattle.gf256.proofs.product_is_the_remainder.Goals as goal

pub returns : goal.returns
returns c a b ha hb = IsRemainder-field_product a b hb
