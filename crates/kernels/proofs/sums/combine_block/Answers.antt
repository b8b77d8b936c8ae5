use Rattle.std.proofs.Common.{◌+◌, get_or, bit_xor, ap₂, ◌∙◌, arith}
use Rattle.std.proofs.lemmas.Simd.{get_or-put_chunk_below, get_or-put_chunk_at, get_or-put_chunk_above}
use Rattle.kernels.proofs.LaneLemmas.{block_sum, length-block_sum, get_or-block_sum}
use Rattle.kernels.proofs.sums.combine_block.Goals as goal
use lib.Lanes.{zip2, put_chunk}

pub returns-clause-inside : goal.returns-clause-inside
unfolding block_sum
returns-clause-inside c b hb =
    let target = c.args.target.now in
    let src = c.args.src.now in
    let start = c.args.start in
    let sum = block_sum c.args.own c.args.other start target src in
    let long = length-block_sum c.args.own c.args.other start target src c.requires.fits (omega arith) in
    ap₂ (λ xs ys. get_or (put_chunk start target (zip2 bit_xor xs ys)) (start + b) 0) c.scaled-product.ensures c.scaled.ensures
    ∙ get_or-put_chunk_at start target sum b 0 (omega arith) (omega arith)
    ∙ get_or-block_sum c.args.own c.args.other start target src b c.requires.fits (omega arith) hb

pub returns-clause-before : goal.returns-clause-before
returns-clause-before c n hn = get_or-put_chunk_below c.args.start c.args.target.now _ n 0 hn

pub returns-clause-after : goal.returns-clause-after
unfolding block_sum
returns-clause-after c n hn =
    let target = c.args.target.now in
    let src = c.args.src.now in
    let start = c.args.start in
    let sum = block_sum c.args.own c.args.other start target src in
    let long = length-block_sum c.args.own c.args.other start target src c.requires.fits (omega arith) in
    ap₂ (λ xs ys. get_or (put_chunk start target (zip2 bit_xor xs ys)) n 0) c.scaled-product.ensures c.scaled.ensures
    ∙ get_or-put_chunk_above start target sum n 0 (omega arith)
