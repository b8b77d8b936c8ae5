use Rattle.std.proofs.Common.{rules, ◌∙◌, sym}
use Rattle.node_keeper.proofs.CauseLemmas.{handed_on, new_write}
use Rattle.node_keeper.proofs.objects.Objects.begin_write.Goals as goal

pub returns-in_err-hear_of-clause-cause : goal.returns-in_err-hear_of-clause-cause
returns-in_err-hear_of-clause-cause c =
    handed_on c.from_residual.result c.from_residual.ensures.1 c.in_err-hear_of.ensures.refused
    (new_write c.args.self.now c.args.name.now c.args.id c.args.value (sym c.is_long_for_new.ensures ∙ c.if-is_long_for_new.false)
    c.in_err-hear_of.ensures.absent)

pub returns-clause-done : goal.returns-clause-done
returns-clause-done c = search rules
