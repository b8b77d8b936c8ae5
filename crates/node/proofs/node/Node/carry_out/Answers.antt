use Rattle.std.proofs.Common.{[], refl, sym, subst}
use Rattle.std.proofs.lemmas.Result.{on_ok_weaker}
use Rattle.client_commands.specs.declared.answer.Answer.TheVariants as answers
use Rattle.client_commands.specs.declared.answer.AnswerError.TheVariants as errors
use Rattle.indexmap.specs.IndexMap.{index_map_len}
use Rattle.node.specs.AtOnce.{IsReplyHere}
use Rattle.node.specs.Replies.{IsReplyTo}
use Rattle.node.proofs.CommandLemmas.{answer_is_sent, answered_now, replied}
use Rattle.node.proofs.TellLemmas.{tells_acts}
use Rattle.node.proofs.node.Node.carry_out.Goals as goal

pub returns-in-Ok-clause-serves : goal.returns-in-Ok-clause-serves
returns-in-Ok-clause-serves c =
    on_ok_weaker c.obey.result (λ serves. serves c.args.next (sym c.in-Ok.ensures)) c.obey.ensures.serves

pub returns-in-Err-clause-acts : goal.returns-in-Err-clause-acts
returns-in-Err-clause-acts c =
    on_ok_weaker c.refuse.result
    (λ tells asker. tells_acts asker [] c.args.self.now.keeper c.args.work.now c.refuse.new.work tells) c.refuse.ensures.tells

pub returns-in-Err-clause-serves : goal.returns-in-Err-clause-serves
returns-in-Err-clause-serves c =
    let old = c.args.self.now in
    let client = c.args.client in
    let answer = answers.Error (errors.Fault c.in-Err.fault) in
    on_ok_weaker c.refuse.result
    (λ grown. replied client c.args.next answer old (record old { desk = c.refuse.new.self }) c.args.work.now c.refuse.new.work
    (answered_now old.desk c.refuse.new.self client c.requires c.refuse.ensures.idle c.refuse.ensures.calls c.refuse.ensures.counts)
    (answer_is_sent old.desk client answer c.args.work.now c.refuse.new.work c.requires grown)
    (subst (λ r. IsReplyTo old.keeper.ids.node old.keeper.file client r answer) c.in-Err.ensures refl)
    (subst (λ r. IsReplyHere old.keeper old.peers (index_map_len old.desk.calls) old.desk.counts r answer) c.in-Err.ensures tt) refl
    refl)
    c.refuse.ensures.grown
