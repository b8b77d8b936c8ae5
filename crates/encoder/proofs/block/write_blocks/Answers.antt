use Rattle.std.proofs.Common.{length, arith}
use Rattle.kernels.specs.Dot.{bytes_of}
use Rattle.kernels.proofs.LaneSumLemmas.{length-bytes_of}
use Rattle.encoder.proofs.PointSumLemmas.{AreFragmentRows-points}
use Rattle.encoder.proofs.block.write_blocks.Goals as goal

pub returns : goal.returns
returns c =
    let blocks = c.fill_blocks.new.blocks in
    AreFragmentRows-points c.write_points.new.out c.args.n (length c.args.blocks.now) c.div_ceil-block_len.result c.args.first
    c.args.value.now (bytes_of blocks) c.div_ceil-block_len.ensures
    (omega (arith, length-bytes_of blocks, c.fill_blocks.auto.blocks)) c.fill_blocks.ensures c.write_points.ensures
