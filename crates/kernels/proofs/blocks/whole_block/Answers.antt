use Rattle.std.proofs.Common.{get_or}
use Rattle.std.proofs.lemmas.Simd.{length-chunk, get_or-chunk}
use Rattle.kernels.proofs.LaneSumLemmas.{same_as_lanes_from}
use Rattle.kernels.proofs.blocks.whole_block.Goals as goal
use lib.Lanes.{chunk}

pub returns : goal.returns
returns c =
    let value = c.args.value.now in
    let start = c.args.start in
    same_as_lanes_from (λ n. get_or value n 0) start (chunk start 32 value) (length-chunk start 32 value c.requires)
    (λ i hi. get_or-chunk start 32 value i 0 hi)
