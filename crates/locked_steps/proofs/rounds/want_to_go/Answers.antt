use Rattle.register.specs.View.{want_at}
use Rattle.driver.proofs.ObjectIndexLemmas.{missing_cause}
use Rattle.locked_steps.specs.Rounds.{open_cause}
use Rattle.locked_steps.proofs.ChosenMessageLemmas.{err_match}
use Rattle.locked_steps.proofs.rounds.want_to_go.Goals as goal

pub returns-in_err-object-clause-cause : goal.returns-in_err-object-clause-cause
returns-in_err-object-clause-cause c =
    err_match _ _ _ _ c.from_residual.ensures.1
    (missing_cause c.args.cluster.now c.args.name.now c.in_err-object.field-0.0 c.in_err-object.ensures.cause
    (λ object. open_cause c.args.turns (want_at object c.args.call)))
