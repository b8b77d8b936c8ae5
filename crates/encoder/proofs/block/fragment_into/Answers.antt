use Rattle.std.proofs.Common.{arith}
use Rattle.encoder.proofs.PointSumLemmas.{fragment-alone}
use Rattle.encoder.proofs.block.fragment_into.Goals as goal

pub returns : goal.returns
returns c =
    fragment-alone c.write_fragments.new.out c.args.k c.args.i c.args.value.now
    (omega (arith, c.write_fragments.auto.out, c.requires.room)) c.write_fragments.ensures
