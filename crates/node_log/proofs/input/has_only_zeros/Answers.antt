use Rattle.std.proofs.Common.{rules}
use Rattle.node_log.proofs.ZeroLemmas.{other_bytes, zeros_more, are_zeros, are_not_zeros}
use Rattle.node_log.proofs.input.has_only_zeros.Goals as goal

pub returns-then-not-are_zeros : goal.returns-then-not-are_zeros
returns-then-not-are_zeros g c =
    other_bytes _ _ _ _ c.loop.invariant c.in_ok-count.ensures.bytes.0
    (are_not_zeros c.are_zeros.result _ c.are_zeros.ensures (search rules))

pub loop-preserved : goal.loop-preserved
loop-preserved g c =
    zeros_more _ _ _ _ c.loop.invariant c.in_ok-count.ensures.bytes.0 (are_zeros c.are_zeros.result _ c.are_zeros.ensures (search rules))
