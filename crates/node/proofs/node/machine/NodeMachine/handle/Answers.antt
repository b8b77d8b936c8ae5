use Rattle.std.proofs.Common.{[], subst, sym}
use Rattle.std.proofs.lemmas.List.{append-nil}
use Rattle.node_clients.specs.Desk.{NoneWaits}
use Rattle.node_strings.specs.Arrival.{arrival_at}
use Rattle.node.specs.Frames.{letters_in, sender_or}
use Rattle.node.specs.Peers.{IsChangedBy}
use Rattle.node.specs.Ticks.{AreFirst}
use Rattle.node.specs.declared.peers.Peers.{Peers}
use Rattle.node.proofs.AgainLemmas.{asked_again}
use Rattle.node.proofs.ActedLemmas.{acted_first, handles_of}
use Rattle.node.proofs.FailureLemmas.{fails_first, fails_then, same_error}
use Rattle.node.proofs.ArrivalLemmas.{since_first}
use Rattle.node.proofs.FitComingLemmas.{came_in_bytes, none_wait}
use Rattle.node.proofs.node.machine.NodeMachine.handle.Goals as goal

pub returns-clause-handled : goal.returns-clause-handled
returns-clause-handled c =
    let old = c.args.self.now in
    let came = arrival_at c.args.frame in
    let asker = sender_or old.keeper.ids.node came in
    let got = letters_in old.keeper c.args.frame in
    let empty = c.new-work.result in
    let taken = c.take_frame.new.work in
    handles_of old c.finish.new.self c.args.frame c.finish.new.work c.into_effects.result
    (c.in_ok-finish.ensures.acted asker got old.keeper
    (acted_first asker got old.keeper c.take_frame.new.self.keeper empty taken c.number-number.ensures.within
    c.new-work.ensures c.in_ok-take_frame.ensures.acts))
    (c.in_ok-finish.ensures.served came old
    (since_first came old c.take_frame.new.self empty taken c.new-work.ensures.to_clients c.new-work.ensures.notices
    c.in_ok-take_frame.ensures.acts.digest c.in_ok-take_frame.ensures.serves))
    c.into_effects.ensures.outputs c.into_effects.ensures.answers c.into_effects.ensures.notices
    (λ waits. c.in_ok-finish.ensures.waits (c.in_ok-take_frame.ensures.waits
    (subst (λ xs. NoneWaits old.desk.clients xs) (sym c.new-work.ensures.due) waits)))
    (asked_again came old c.take_frame.new.self empty.outputs.items taken.outputs.items c.into_effects.result.outputs.items
    c.new-work.ensures.outputs c.in_ok-take_frame.ensures.again
    (subst (λ xs. AreFirst taken.outputs.items xs) (sym c.into_effects.ensures.outputs)
    (c.in_ok-finish.ensures.outputs taken.outputs.items ([], sym (append-nil taken.outputs.items)))))
    (subst (λ (peers : Peers). IsChangedBy came old.keeper old.peers peers) (sym c.finish.ensures.peers)
    c.in_ok-take_frame.ensures.peers)

pub returns-in_err-take_frame-clause-refused : goal.returns-in_err-take_frame-clause-refused
returns-in_err-take_frame-clause-refused c =
    let error = c.in_err-take_frame.field-0.0 in
    same_error _ c.from_residual.result error c.from_residual.ensures.1
    (fails_first c.args.self.now c.args.frame error c.in_err-take_frame.ensures.refused)

pub returns-in_err-finish-clause-refused : goal.returns-in_err-finish-clause-refused
returns-in_err-finish-clause-refused c =
    let old = c.args.self.now in
    let came = arrival_at c.args.frame in
    let asker = sender_or old.keeper.ids.node came in
    let got = letters_in old.keeper c.args.frame in
    let empty = c.new-work.result in
    let taken = c.take_frame.new.work in
    let error = c.in_err-finish.field-0.0 in
    same_error _ c.from_residual-in_err-finish.result error c.from_residual-in_err-finish.ensures.1
    (fails_then old c.take_frame.new.self taken c.args.frame error
    (acted_first asker got old.keeper c.take_frame.new.self.keeper empty taken c.number-number.ensures.within
    c.new-work.ensures c.in_ok-take_frame.ensures.acts)
    (since_first came old c.take_frame.new.self empty taken c.new-work.ensures.to_clients c.new-work.ensures.notices
    c.in_ok-take_frame.ensures.acts.digest c.in_ok-take_frame.ensures.serves) c.in_err-finish.ensures.refused
    (λ bytes fit. c.in_ok-take_frame.ensures.serves.fit bytes (none_wait old empty c.new-work.ensures.own fit)))

pub returns-clause-fit : goal.returns-clause-fit
returns-clause-fit c = λ fit is.
    (c.in_ok-finish.ensures.fit (c.in_ok-take_frame.ensures.serves.fit (came_in_bytes c.args.frame is)
    (none_wait c.args.self.now c.new-work.result c.new-work.ensures.own fit))).fit
