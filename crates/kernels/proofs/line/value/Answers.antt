use Rattle.std.proofs.Common.{get_or, bit_xor, ap, ◌∙◌, arith}
use Rattle.std.proofs.lemmas.Simd.{get_or-zip2}
use Rattle.kernels.proofs.line.value.Goals as goal

pub returns : goal.returns
returns c i hi =
    get_or-zip2 bit_xor c.product.result c.args.level i 0 0 0 (omega (arith, c.product.auto)) (omega (arith, c.fits-level.0))
    ∙ ap (λ y. bit_xor y (get_or c.args.level i 0)) (c.product.ensures i hi)
