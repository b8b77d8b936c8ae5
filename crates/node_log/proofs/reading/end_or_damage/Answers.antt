use Rattle.std.proofs.Common.{refl}
use Rattle.node_log.proofs.ZeroLemmas.{other_rest}
use Rattle.node_log.proofs.reading.end_or_damage.Goals as goal

pub returns-else-branch : goal.returns-else-branch
returns-else-branch g c =
    (refl, other_rest _ c.in_ok-has_only_zeros.field-0 c.args.part.now c.if-branch.false c.in_ok-has_only_zeros.ensures)
