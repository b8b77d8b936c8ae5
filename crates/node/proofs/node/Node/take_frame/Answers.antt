use Rattle.std.proofs.Common.{OnOk, [], refl, subst, ap}
use Rattle.node_strings.specs.Arrival.{arrival_at}
use Rattle.node_keeper.specs.Acts.{Acts}
use Rattle.node.specs.Frames.{letter_if_any, letters_in, sender_or}
use Rattle.node.specs.Serving.{ServesArrival}
use Rattle.node.proofs.ArrivalLemmas.{arrival_alone}
use Rattle.node.proofs.ServingLemmas.{peers_alone}
use Rattle.node.proofs.StayingLemmas.{unchanged}
use Rattle.node.proofs.TellLemmas.{idle}
use Rattle.node.specs.Peers.{IsChangedBy}
use Rattle.node.specs.declared.drops.Drops.{Drops}
use Rattle.node.specs.declared.node.Node.{Node}
use Rattle.node.specs.declared.peers.Peers.{Peers}
use Rattle.node.specs.Ticks.{DoesFirst}
use Rattle.node.proofs.node.Node.take_frame.Goals as goal

pub returns-in-Some-clause-acts : goal.returns-in-Some-clause-acts
returns-in-Some-clause-acts c =
    let old = c.args.self.now.keeper in
    subst (λ came. OnOk c.take_arrival.result (Acts (sender_or old.ids.node came) (letter_if_any old came) old c.args.work.now
    c.take_arrival.new.self.keeper c.take_arrival.new.work)) c.in-Some.ensures.exact c.take_arrival.ensures.acts

pub returns-in-Some-clause-serves : goal.returns-in-Some-clause-serves
returns-in-Some-clause-serves c =
    subst (λ came. OnOk c.take_arrival.result (ServesArrival came c.args.self.now c.args.work.now c.take_arrival.new.self
    c.take_arrival.new.work)) c.in-Some.ensures.exact c.take_arrival.ensures.serves

pub returns-in-None-clause-acts : goal.returns-in-None-clause-acts
returns-in-None-clause-acts c =
    let old = c.args.self.now.keeper in
    idle (sender_or old.ids.node (arrival_at c.args.frame)) (letters_in old c.args.frame) old c.args.work.now

pub returns-in-None-clause-serves : goal.returns-in-None-clause-serves
returns-in-None-clause-serves c =
    let old = c.args.self.now in
    let peers : Peers = record old.peers { drops = c.count_malformed.new.self } in
    let new : Node = record old { peers = peers } in
    let work = c.args.work.now in
    subst (λ came. ServesArrival came old work new work) c.in-None.ensures.exact
    (arrival_alone _ old new work work [] refl tt (peers_alone old peers work) (λ bytes fit. unchanged old.keeper work fit.keeper))

pub returns-in-Some-clause-again : goal.returns-in-Some-clause-again
returns-in-Some-clause-again c =
    subst (λ came. OnOk c.take_arrival.result (DoesFirst came c.args.self.now c.args.work.now.outputs.items
    c.take_arrival.new.self c.take_arrival.new.work.outputs.items)) c.in-Some.ensures.exact c.take_arrival.ensures.again

pub returns-in-None-clause-again : goal.returns-in-None-clause-again
returns-in-None-clause-again c =
    let old = c.args.self.now in
    let outputs = c.args.work.now.outputs.items in
    let new : Node = record old { peers = record old.peers { drops = c.count_malformed.new.self } } in
    subst (λ came. DoesFirst came old outputs new outputs) c.in-None.ensures.exact tt

pub returns-in-Some-clause-peers : goal.returns-in-Some-clause-peers
returns-in-Some-clause-peers c =
    let old = c.args.self.now in
    subst (λ came. OnOk c.take_arrival.result (IsChangedBy came old.keeper old.peers c.take_arrival.new.self.peers))
    c.in-Some.ensures.exact c.take_arrival.ensures.peers

pub returns-in-None-clause-peers : goal.returns-in-None-clause-peers
returns-in-None-clause-peers c =
    let old = c.args.self.now in
    let new : Peers = record old.peers { drops = c.count_malformed.new.self } in
    subst (λ came. IsChangedBy came old.keeper old.peers new) c.in-None.ensures.exact
    (ap (λ (drops : Drops). record old.peers { drops = drops }) c.count_malformed.ensures)
