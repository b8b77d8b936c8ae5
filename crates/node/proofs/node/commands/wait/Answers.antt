use Rattle.std.proofs.Common.{◌≡◌, OnOk, Some, subst, sym}
use Rattle.std.proofs.lemmas.Result.{on_ok_weaker}
use Rattle.client_commands.specs.declared.answer.Answer.TheVariants as answers
use Rattle.client_commands.specs.declared.answer.AnswerError.TheVariants as errors
use Rattle.node_effects.specs.Errors.{IsUnwritten}
use Rattle.node_effects.specs.declared.error.NodeError.TheVariants.{NoMemory}
use Rattle.node_clients.specs.Answers.{CanBeSent}
use Rattle.node_clients.proofs.ErrorFittingLemmas.{refusal_fits}
use Rattle.node_clients.proofs.TellLemmas.{tells_nobody}
use Rattle.node.specs.Serving.{IsAwaited}
use Rattle.node.proofs.CommandLemmas.{answer_is_sent, answered_now}
use Rattle.node.proofs.FailureLemmas.{if_err_weaker, only_memory}
use Rattle.node.proofs.node.commands.wait.Goals as goal

pub returns-in_ok-open-in-Open-clause-tells : goal.returns-in_ok-open-in-Open-clause-tells
returns-in_ok-open-in-Open-clause-tells c = tells_nobody c.args.work.now

pub returns-in-Refused-clause-awaited : goal.returns-in-Refused-clause-awaited
returns-in-Refused-clause-awaited c =
    let old = c.args.desk.now in
    let client = c.args.client in
    subst (λ begun. OnOk c.refuse.result (IsAwaited old c.args.work.now client
    (Some c.args.call) begun
    c.refuse.new.self c.refuse.new.work)) (sym c.in-Refused.is)
    (on_ok_weaker c.refuse.result
    (λ grown. (
      answered_now old c.refuse.new.self client c.requires c.refuse.ensures.idle c.refuse.ensures.calls
          c.refuse.ensures.counts,
      answer_is_sent old client (answers.Error (errors.Refused c.in-Refused.refusal)) c.args.work.now c.refuse.new.work c.requires
          grown,
    )) c.refuse.ensures.grown)

pub returns-in-Refused-clause-refused : goal.returns-in-Refused-clause-refused
returns-in-Refused-clause-refused c =
    let fits = CanBeSent (answers.Error (errors.Refused c.in-Refused.refusal)) in
    if_err_weaker (IsUnwritten fits) (λ e. e ≡ NoMemory) c.refuse.result (only_memory fits (refusal_fits c.in-Refused.refusal))
    c.refuse.ensures.refused
