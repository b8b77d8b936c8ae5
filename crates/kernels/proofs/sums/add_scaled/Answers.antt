use Rattle.std.proofs.Common.{◌<◌, length, bit_xor, get_or, ap, ◌∙◌, arith}
use Rattle.gf256.specs.Field.{field_product}
use Rattle.gf256.proofs.FieldLemmas.{product-one_left}
use Rattle.kernels.proofs.sums.add_scaled.Goals as goal

pub returns : goal.returns
returns c b hb =
    let byte = get_or c.args.dst.now b 0 in
    let inside : b < length c.args.dst.now = omega arith in
    c.combine.ensures.sum b hb
    ∙ ap (λ x. bit_xor x (field_product c.args.c (get_or c.args.src.now b 0))) (product-one_left byte (c.combine.ensures.bytes b 0 inside))
