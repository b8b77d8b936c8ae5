use Rattle.std.proofs.Common.{bit_xor, get_or, ap, ◌∙◌}
use Rattle.gf256.specs.Field.{field_product}
use Rattle.gf256.proofs.FieldLemmas.{product-one_left}
use Rattle.kernels.proofs.sums.scale_add.Goals as goal

pub returns : goal.returns
returns c b hb =
    let byte = get_or c.args.src.now b 0 in
    c.combine.ensures.sum b hb
    ∙ ap (bit_xor (field_product c.args.c (get_or c.args.acc.now b 0))) (product-one_left byte (c.type_inv.src b).fits)
