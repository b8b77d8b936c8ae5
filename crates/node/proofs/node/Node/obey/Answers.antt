use Rattle.std.proofs.Common.{[], refl, sym, subst, Ok, ap, ◌∙◌}
use Rattle.std.proofs.lemmas.Result.{on_ok_weaker}
use Rattle.indexmap.specs.IndexMap.{index_map_len}
use Rattle.node.specs.AtOnce.{IsReplyHere}
use Rattle.node.specs.Replies.{IsReplyTo}
use Rattle.node.specs.declared.node.Node.{Node}
use Rattle.node.proofs.CommandLemmas.{answer_is_sent, answered_now, quits, replied}
use Rattle.node.proofs.GivenIdLemmas.{reply_uses_none}
use Rattle.node.proofs.PlainReplyLemmas.{plain_is_here, plain_is_reply}
use Rattle.node.proofs.TellLemmas.{tells_acts}
use Rattle.node.proofs.node.Node.obey.Goals as goal

pub returns-in-Read-clause-serves : goal.returns-in-Read-clause-serves
returns-in-Read-clause-serves c =
    on_ok_weaker c.read.result (λ serves next asks. serves next (asks ∙ ap Ok c.in-Read.is)) c.read.ensures.serves

pub returns-in-Set-clause-serves : goal.returns-in-Set-clause-serves
returns-in-Set-clause-serves c =
    on_ok_weaker c.write.result (λ serves next asks. serves next (asks ∙ ap Ok c.in-Set.is)) c.write.ensures.serves

pub returns-in-Delete-clause-serves : goal.returns-in-Delete-clause-serves
returns-in-Delete-clause-serves c =
    on_ok_weaker c.delete.result (λ serves next asks. serves next (asks ∙ ap Ok c.in-Delete.is)) c.delete.ensures.serves

pub returns-in-Move-clause-serves : goal.returns-in-Move-clause-serves
returns-in-Move-clause-serves c =
    on_ok_weaker c.move_object.result (λ serves next asks. serves next (asks ∙ ap Ok c.in-Move.is))
    c.move_object.ensures.serves

pub returns-in-Quit-clause-acts : goal.returns-in-Quit-clause-acts
returns-in-Quit-clause-acts c =
    on_ok_weaker c.quit.result
    (λ tells asker. tells_acts asker [] c.args.self.now.keeper c.args.work.now c.quit.new.work tells) c.quit.ensures.tells

pub returns-in-Quit-clause-serves : goal.returns-in-Quit-clause-serves
returns-in-Quit-clause-serves c =
    let old = c.args.self.now in
    let new : Node = record old { desk = c.quit.new.self } in
    quits c.args.client c.args.command old new c.args.work.now c.quit.new.work c.quit.result c.in-Quit.is c.requires
    c.quit.ensures.grown c.quit.ensures.state c.quit.ensures.waiting c.quit.ensures.stays c.quit.ensures.others
    c.quit.ensures.calls c.quit.ensures.counts refl

pub returns-in_ok-answer-in_default-clause-acts : goal.returns-in_ok-answer-in_default-clause-acts
returns-in_ok-answer-in_default-clause-acts c =
    on_ok_weaker c.answer.result
    (λ tells asker. tells_acts asker [] c.args.self.now.keeper c.args.work.now c.answer.new.work tells) c.answer.ensures.tells

pub returns-in_ok-answer-in_default-clause-serves : goal.returns-in_ok-answer-in_default-clause-serves
returns-in_ok-answer-in_default-clause-serves c =
    let old = c.args.self.now in
    let new : Node = record old { desk = c.answer.new.self } in
    let client = c.args.client in
    let answer = c.in_ok-answer-in_default.answer in
    on_ok_weaker c.answer.result
    (λ grown next asks. replied client next answer old new c.args.work.now c.answer.new.work
    (answered_now old.desk c.answer.new.self client c.requires c.answer.ensures.idle c.answer.ensures.calls c.answer.ensures.counts)
    (answer_is_sent old.desk client answer c.args.work.now c.answer.new.work c.requires grown)
    (subst (λ r. IsReplyTo old.keeper.ids.node old.keeper.file client r answer) (sym asks)
    (plain_is_reply old.keeper.ids.node old.keeper.file client c.args.command answer c.in_default.not-Read c.in_default.not-Set
    c.in_default.not-Move c.in_default.not-Delete c.in_default.not-Quit
    c.in_ok-answer-in_default.ensures.plain))
    (subst (λ r. IsReplyHere old.keeper old.peers (index_map_len old.desk.calls) old.desk.counts r answer) (sym asks)
    (plain_is_here old.keeper old.peers (index_map_len old.desk.calls) old.desk.counts c.args.command answer c.in_default.not-Read
    c.in_default.not-Set c.in_default.not-Move c.in_default.not-Delete c.in_ok-answer-in_default.ensures.here)) refl
    (reply_uses_none old.keeper.ids answer c.in_ok-answer-in_default.ensures.unrefused)) c.answer.ensures.grown
