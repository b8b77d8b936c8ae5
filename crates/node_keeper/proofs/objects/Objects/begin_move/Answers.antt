use Rattle.std.proofs.Common.{rules}
use Rattle.node_keeper.proofs.CauseLemmas.{handed_on, new_move}
use Rattle.node_keeper.proofs.objects.Objects.begin_move.Goals as goal

pub returns-in_err-hear_of-clause-cause : goal.returns-in_err-hear_of-clause-cause
returns-in_err-hear_of-clause-cause c =
    handed_on c.from_residual.result c.from_residual.ensures.1 c.in_err-hear_of.ensures.refused
    (new_move c.args.self.now c.args.name.now c.args.id c.in_err-hear_of.ensures.absent)

pub returns-clause-done : goal.returns-clause-done
returns-clause-done c = search rules
