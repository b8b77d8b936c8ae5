use Rattle.std.proofs.Common.{length, arith}
use Rattle.kernels.specs.Dot.{bytes_of}
use Rattle.decoder.proofs.RowTableLemmas.{AreBlockBytes-until}
use Rattle.decoder.proofs.sums.write_blocks.Goals as goal

pub loop-from-init : goal.loop-from-init
loop-from-init c = record { within = omega arith; blocks = λ j b hj hb there. absurd (omega arith) }

pub loop-from-preserved : goal.loop-from-preserved
loop-from-preserved c = record { within = omega arith; blocks = c.write_stripe.ensures c.loop-from.invariant.blocks }

pub returns : goal.returns
returns c =
    AreBlockBytes-until c.loop-from.out (length c.args.fragments.now) c.args.size c.loop-from.from c.args.table.now
    (bytes_of c.args.fragments.now) (omega arith) (omega arith) c.loop-from.invariant.blocks
