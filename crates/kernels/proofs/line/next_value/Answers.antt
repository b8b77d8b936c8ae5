use Rattle.std.proofs.Common.{◌<◌, get_or, bit_xor, w8, ap, ◌∙◌, arith}
use Rattle.std.proofs.lemmas.Simd.{Each1-get_or, get_or-zip2, below_from_Fits}
use Rattle.kernels.proofs.LineLemmas.{second_point}
use Rattle.kernels.proofs.line.next_value.Goals as goal

pub returns : goal.returns
returns c u level i fits even hi known =
    let slope = c.args.slope in
    get_or-zip2 bit_xor c.args.values slope i 0 0 0 (omega (arith, c.fits-values.0)) (omega (arith, c.fits-slope.0))
    ∙ ap (λ y. bit_xor y (get_or slope i 0)) known
    ∙ second_point u (get_or slope i 0) level fits even
    (Each1-get_or (λ y. y < 256) slope i 0 (omega (arith, c.fits-slope.0)) (below_from_Fits w8 slope c.fits-slope.1))
