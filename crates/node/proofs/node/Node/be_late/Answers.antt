use Rattle.std.proofs.Common.{[], ◌++◌, ◌∙◌, ◌&&◌, not, refl, subst, sym, ap}
use Rattle.std.proofs.lemmas.List.{append-nil}
use Rattle.std.proofs.lemmas.Result.{on_ok_weaker}
use Rattle.node_keeper.proofs.ActLemmas.{acts_more}
use Rattle.node.specs.Serving.{ServesLate}
use Rattle.node.specs.declared.node.Node.{Node}
use Rattle.node.proofs.TellLemmas.{tells_acts}
use Rattle.node.proofs.AgainLemmas.{kept_rest, on_ok_both}
use Rattle.node.proofs.TickLemmas.{late_call, late_move}
use Rattle.node_clients.specs.Calls.{waiting_for}
use Rattle.node_clients.specs.Desk.{listener}
use Rattle.node_clients.specs.Served.{IsReleased}
use Rattle.node_clients.specs.declared.desk.Desk.{Desk}
use Rattle.node_effects.specs.Work.{send_all}
use Rattle.node_keeper.specs.Sendings.{posted}
use Rattle.node.specs.Ticks.{IsKeptAs, again_if}
use Rattle.node.proofs.StayingLemmas.{left_then, told_left}
use Rattle.writable.proofs.KeeperLemmas.{given_up_fit}
use Rattle.node.proofs.node.Node.be_late.Goals as goal

pub returns-then-call-clause-fit : goal.returns-then-call-clause-fit
returns-then-call-clause-fit c =
    let old = c.args.self.now.keeper in
    let work = c.args.work.now in
    on_ok_weaker c.ask_again.result
    (λ left short fit. left_then old c.ask_again.new.self.keeper work c.release.new.work c.ask_again.new.work
    (told_left old work c.release.new.work c.in_ok-release.ensures.tells fit) (left short)) c.ask_again.ensures.fit

pub returns-clause-fit : goal.returns-clause-fit
returns-clause-fit c =
    let old = c.args.self.now.keeper in
    let new = c.give_up-was_open.new.self in
    on_ok_weaker c.give_up.result
    (λ tells short fit. told_left new c.args.work.now c.give_up.new.work tells
    (given_up_fit old new c.args.call.name c.args.id fit c.give_up-was_open.ensures.done c.give_up-was_open.ensures.rest))
    c.give_up.ensures.tells

pub returns-then-call-clause-acts : goal.returns-then-call-clause-acts
returns-then-call-clause-acts c =
    let old = c.args.self.now.keeper in
    let work = c.args.work.now in
    on_ok_weaker c.ask_again.result
    (λ acts asker. acts_more asker [] old old c.ask_again.new.self.keeper work c.release.new.work c.ask_again.new.work
    (tells_acts asker [] old work c.release.new.work c.in_ok-release.ensures.tells) (acts asker)) c.ask_again.ensures.acts

pub returns-then-call-clause-late : goal.returns-then-call-clause-late
returns-then-call-clause-late c =
    let old = c.args.self.now in
    let new = c.ask_again.new.self in
    let work = c.args.work.now in
    let who = listener old.desk (waiting_for old.desk.calls c.args.id) in
    let released : IsReleased old.desk c.args.id who c.release.new.self = record {
      who = refl;
      released = c.release.ensures.released;
      others = c.release.ensures.others;
      idle = c.release.ensures.idle;
      counts = c.release.ensures.counts;
    } in
    on_ok_both c.ask_again.result c.ask_again.ensures.seen c.ask_again.ensures.kept
    (λ seen kept.
    let rest = kept_rest c.args.call.asks_again old.keeper new.keeper c.args.call.name c.args.id kept in
    subst (λ is_move. ServesLate c.args.id is_move old work new c.ask_again.new.work) (sym c.if-call.true)
    (late_move c.args.id old new work c.release.new.work c.ask_again.new.work c.in_ok-release.ensures.told seen
    (subst (λ (d : Desk). IsReleased old.desk c.args.id who d) (sym c.ask_again.ensures.rest.desk) released) rest.0 rest.1))

pub returns-clause-acts : goal.returns-clause-acts
returns-clause-acts c =
    let old = c.args.self.now.keeper in
    let new = c.give_up-was_open.new.self in
    let work = c.args.work.now in
    on_ok_weaker c.give_up.result
    (λ tells asker. acts_more asker [] old new new work work c.give_up.new.work (c.give_up-was_open.ensures.acts asker work)
    (tells_acts asker [] new work c.give_up.new.work tells)) c.give_up.ensures.tells

pub returns-clause-late : goal.returns-clause-late
returns-clause-late c =
    let old = c.args.self.now in
    let new : Node = record old { keeper = c.give_up-was_open.new.self; desk = c.give_up.new.self } in
    let work = c.args.work.now in
    let rest = c.give_up-was_open.ensures.rest in
    on_ok_weaker c.give_up.result
    (λ grown. subst (λ is_move. ServesLate c.args.id is_move old work new c.give_up.new.work) (sym c.if-call.false)
    (late_call c.args.id old new work c.give_up.new.work grown (record {
      who = refl;
      gone = c.give_up.ensures.gone;
      others = c.give_up.ensures.others;
      idle = c.give_up.ensures.idle;
    }) c.give_up.ensures.counts rest.file rest.ids)) c.give_up.ensures.told

pub returns-then-call-clause-again : goal.returns-then-call-clause-again
returns-then-call-clause-again c =
    let keeper = c.args.self.now.keeper in
    let call = c.args.call in
    let before = c.args.work.now.outputs.items in
    let again = again_if call.asks_again call.asks_all keeper call.name c.args.id in
    on_ok_weaker c.ask_again.result
    (λ out. out
    ∙ ap (λ xs. xs ++ send_all (posted keeper.ids.node keeper.digest again))
    (c.in_ok-release.ensures.tells.grown.outputs ∙ append-nil before)
    ∙ ap (λ b. before ++ send_all (posted keeper.ids.node keeper.digest
    (again_if (b && call.asks_again) call.asks_all keeper call.name c.args.id))) (sym c.if-call.true)) c.ask_again.ensures.again

pub returns-then-call-clause-kept : goal.returns-then-call-clause-kept
returns-then-call-clause-kept c =
    let keeper = c.args.self.now.keeper in
    let call = c.args.call in
    on_ok_weaker c.ask_again.result
    (λ kept. subst (λ b. IsKeptAs (not b) call.asks_again keeper call.name c.args.id c.ask_again.new.self.keeper)
    (sym c.if-call.true) kept) c.ask_again.ensures.kept

pub returns-clause-again : goal.returns-clause-again
returns-clause-again c =
    let keeper = c.args.self.now.keeper in
    let call = c.args.call in
    let before = c.args.work.now.outputs.items in
    on_ok_weaker c.give_up.result
    (λ tells. tells.grown.outputs
    ∙ ap (λ b. before ++ send_all (posted keeper.ids.node keeper.digest
    (again_if (b && call.asks_again) call.asks_all keeper call.name c.args.id))) (sym c.if-call.false)) c.give_up.ensures.tells

pub returns-clause-kept : goal.returns-clause-kept
returns-clause-kept c =
    let keeper = c.args.self.now.keeper in
    let call = c.args.call in
    on_ok_weaker c.give_up.result
    (λ tells. subst (λ b. IsKeptAs (not b) call.asks_again keeper call.name c.args.id c.give_up-was_open.new.self)
    (sym c.if-call.false)
    (c.give_up-was_open.ensures.done, c.give_up-was_open.ensures.rest)) c.give_up.ensures.tells

pub returns-then-call-clause-peers : goal.returns-then-call-clause-peers
returns-then-call-clause-peers c = c.ask_again.ensures.rest.peers
