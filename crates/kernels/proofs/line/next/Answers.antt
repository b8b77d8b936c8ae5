use Rattle.std.proofs.Common.{◌<◌, bit_xor, get_or, w8, ap, ap₂, ◌∙◌, arith}
use Rattle.std.proofs.lemmas.Simd.{Each1-get_or, get_or-zip2, below_from_Fits}
use Rattle.gf256.specs.Field.{field_product}
use Rattle.kernels.proofs.LineLemmas.{line_times}
use Rattle.kernels.proofs.line.next.Goals as goal

pub returns : goal.returns
returns c x i root hi =
    let slope = c.args.slope in
    let level = c.args.level in
    let byte : get_or slope i 0 < 256 =
    Each1-get_or (λ y. y < 256) slope i 0 (omega (arith, c.fits-slope.0)) (below_from_Fits w8 slope c.fits-slope.1) in
    ap₂ bit_xor
    (ap (field_product x) (get_or-zip2 bit_xor slope level i 0 0 0 (omega (arith, c.fits-slope.0)) (omega (arith, c.fits-level.0))))
    (get_or-zip2 bit_xor c.args.block c.product.result i 0 0 0 (omega (arith, c.fits-block.0)) (omega (arith, c.product.auto))
    ∙ ap (bit_xor (get_or c.args.block i 0)) (c.product.ensures i hi))
    ∙ line_times c.args.step.now x (get_or slope i 0) (get_or level i 0) (get_or c.args.block i 0) root byte
