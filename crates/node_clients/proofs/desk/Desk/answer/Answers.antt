use Rattle.std.proofs.Common.{rules}
use Rattle.frames.specs.Frame.{IsFrame}
use Rattle.node_effects.specs.Errors.{IsUnwritten}
use Rattle.node_clients.specs.Answers.{CanBeSent, answer_frame}
use Rattle.node_clients.proofs.FittingLemmas.{answer_fits, part_unwritten, same_error}
use Rattle.node_clients.proofs.TellLemmas.{tells_nobody}
use Rattle.node_clients.proofs.desk.Desk.answer.Goals as goal

pub returns-then-not-answered-clause-tells : goal.returns-then-not-answered-clause-tells
returns-then-not-answered-clause-tells c = tells_nobody c.args.work.now

pub returns-clause-grown : goal.returns-clause-grown
returns-clause-grown c = search rules

pub returns-in_err-answer-clause-refused : goal.returns-in_err-answer-clause-refused
returns-in_err-answer-clause-refused c =
    let client = c.args.client in
    let answer = c.args.answer in
    let error = c.in_err-answer.field-0.0 in
    same_error (IsUnwritten (CanBeSent answer)) c.from_residual.result error c.from_residual.ensures.1
    (part_unwritten (IsFrame (answer_frame client answer)) (CanBeSent answer)
    (λ can. answer_fits client answer c.ranges.client.fits can) error c.in_err-answer.ensures.writes)
