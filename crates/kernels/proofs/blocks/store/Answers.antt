use Rattle.std.proofs.Common.{arith}
use Rattle.std.proofs.lemmas.Simd.{get_or-put_chunk_below, get_or-put_chunk_at, get_or-put_chunk_above}
use Rattle.kernels.proofs.blocks.store.Goals as goal

pub returns-then-width-eq-BLOCK-clause-inside : goal.returns-then-width-eq-BLOCK-clause-inside
returns-then-width-eq-BLOCK-clause-inside c i hi = get_or-put_chunk_at c.args.start c.args.out.now c.args.lanes i 0 (omega
    (arith, c.fits-lanes.0, c.if-width-eq-BLOCK.true)) (omega (arith, c.fits-lanes.0, c.if-width-eq-BLOCK.true))

pub returns-then-width-eq-BLOCK-clause-before : goal.returns-then-width-eq-BLOCK-clause-before
returns-then-width-eq-BLOCK-clause-before c n hn = get_or-put_chunk_below c.args.start c.args.out.now c.args.lanes n 0 hn

pub returns-then-width-eq-BLOCK-clause-after : goal.returns-then-width-eq-BLOCK-clause-after
returns-then-width-eq-BLOCK-clause-after c n hn = get_or-put_chunk_above c.args.start c.args.out.now c.args.lanes n 0 (omega
    (arith, c.fits-lanes.0, c.if-width-eq-BLOCK.true))
