use Rattle.std.proofs.Common.{[], None, Some, ◌≡◌, ◌∙◌, refl, subst, sym}
use Rattle.std.proofs.lemmas.Result.{on_ok_weaker}
use Rattle.indexmap.specs.IndexMap.{index_map_len}
use Rattle.node.specs.AtOnce.{IsMoveRefusedHere, IsReplyHere}
use Rattle.node.proofs.TellLemmas.{acts_and_tells, tells_acts}
use Rattle.client_commands.specs.declared.answer.Answer.TheVariants as answers
use Rattle.client_commands.specs.declared.answer.AnswerError.TheVariants as errors
use Rattle.client_commands.specs.declared.command.Command.TheVariants as ask
use Rattle.node_keeper.specs.Beginning.{moving_call}
use Rattle.node.specs.Moves.{move_fault}
use Rattle.node.specs.Replies.{IsMoveRefused, IsReplyTo}
use Rattle.node.specs.declared.node.Node.{Node}
use Rattle.node.proofs.GivenIdLemmas.{fault_is_none, reply_uses_none}
use Rattle.node.proofs.KeeperLemmas.{call_served}
use Rattle.node.proofs.CommandLemmas.{answer_is_sent, answered_now, replied}
use Rattle.node.proofs.node.Node.move_object.Goals as goal

pub returns-in-Some-clause-acts : goal.returns-in-Some-clause-acts
returns-in-Some-clause-acts c =
    on_ok_weaker c.refuse.result
    (λ tells asker. tells_acts asker [] c.args.self.now.keeper c.args.work.now c.refuse.new.work tells) c.refuse.ensures.tells

pub returns-clause-acts : goal.returns-clause-acts
returns-clause-acts c =
    acts_and_tells c.wait.result c.args.self.now.keeper c.begin_move.new.self c.args.work.now c.begin_move.new.work c.wait.new.work
    c.in_ok-begun.ensures.acts c.wait.ensures.tells

pub returns-in-Some-clause-serves : goal.returns-in-Some-clause-serves
returns-in-Some-clause-serves c =
    let old = c.args.self.now in
    let new : Node = record old { desk = c.refuse.new.self } in
    let client = c.args.client in
    let answer = answers.Error c.in-Some.error in
    let fault : Some c.in-Some.error ≡ move_fault old.keeper.ids.node old.keeper.file old.peers.heard c.args.layout =
    sym c.in-Some.is ∙ c.move_fault.ensures.fault in
    on_ok_weaker c.refuse.result
    (λ grown next asks. replied client next answer old new c.args.work.now c.refuse.new.work
    (answered_now old.desk c.refuse.new.self client c.requires c.refuse.ensures.idle c.refuse.ensures.calls c.refuse.ensures.counts)
    (answer_is_sent old.desk client answer c.args.work.now c.refuse.new.work c.requires grown)
    (subst (λ r. IsReplyTo old.keeper.ids.node old.keeper.file client r answer) (sym asks)
    (old.peers.heard, subst (λ f. IsMoveRefused f answer) fault refl))
    (subst (λ r. IsReplyHere old.keeper old.peers (index_map_len old.desk.calls) old.desk.counts r answer) (sym asks)
    (subst (λ f. IsMoveRefusedHere f old.keeper c.args.name answer) fault refl)) refl
    (reply_uses_none old.keeper.ids answer (fault_is_none c.in-Some.error old.keeper.ids.node old.keeper.file old.peers.heard
    c.args.layout (sym fault)))) c.refuse.ensures.grown

pub returns-clause-serves : goal.returns-clause-serves
returns-clause-serves c =
    let old = c.args.self.now in
    let new : Node = record old { keeper = c.begin_move.new.self; desk = c.wait.new.desk } in
    let client = c.args.client in
    let layout = c.args.layout in
    let none : move_fault old.keeper.ids.node old.keeper.file old.peers.heard layout ≡ None =
    sym c.move_fault.ensures.fault ∙ c.in_default.is in
    on_ok_weaker c.wait.result
    (λ awaited next asks. call_served client next (ask.Move c.args.name layout) (moving_call c.args.name layout) old new
    c.args.work.now c.begin_move.new.work c.wait.new.work c.in_ok-begun.begun asks (λ id. refl)
    (λ local id why e. (
      old.peers.heard,
      subst (λ f. IsMoveRefused f (answers.Error (errors.Refused why))) (sym none)
          (local, id, why, e, refl),
    )) (old.peers.heard, none)
    (λ id why next e. subst (λ f. IsMoveRefusedHere f old.keeper c.args.name (answers.Error (errors.Refused why))) (sym none)
    (id, next, why, e, refl))
    (λ id next e. (none, (next, e))) refl c.in_ok-begun.ensures.begins awaited)
    c.wait.ensures.awaited
