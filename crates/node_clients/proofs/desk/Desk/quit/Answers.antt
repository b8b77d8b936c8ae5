use Rattle.std.proofs.Common.{◌≡◌, arith}
use Rattle.std.proofs.lemmas.Grind.{common_steps}
use Rattle.client_commands.specs.declared.answer.Answer.TheVariants as answers
use Rattle.frames.specs.Frame.{IsFrame}
use Rattle.node_effects.specs.declared.error.NodeError.TheVariants.{NoMemory}
use Rattle.node_clients.specs.Answers.{answer_frame}
use Rattle.node_clients.proofs.FittingLemmas.{answer_fits, ok_fits, only_memory, same_error}
use Rattle.node_clients.proofs.desk.Desk.quit.Goals as goal

pub returns-clause-grown : goal.returns-clause-grown
returns-clause-grown c = grind (arith, common_steps)

pub returns-in_err-answer-clause-refused : goal.returns-in_err-answer-clause-refused
returns-in_err-answer-clause-refused c =
    let client = c.args.client in
    let error = c.in_err-answer.field-0.0 in
    same_error (λ e. e ≡ NoMemory) c.from_residual.result error c.from_residual.ensures.1
    (only_memory (IsFrame (answer_frame client answers.Ok)) (answer_fits client answers.Ok c.ranges.client.fits ok_fits) error
    c.in_err-answer.ensures.writes)
