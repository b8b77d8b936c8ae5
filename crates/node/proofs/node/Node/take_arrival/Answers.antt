use Rattle.std.proofs.Common.{Some, [], ◌∷◌, ◌++◌, ◌∙◌, ap, refl, subst, sym}
use Rattle.std.proofs.lemmas.Result.{on_ok_weaker}
use Rattle.indexmap.specs.IndexMap.{keys}
use Rattle.node_strings.specs.declared.arrival.Arrival.TheVariants as came
use Rattle.node_clients.specs.Served.{IsArrived, IsGone}
use Rattle.node_clients.specs.Services.{Service}
use Rattle.node_clients.specs.declared.next.Next.TheVariants.{Came}
use Rattle.node_clients.proofs.WaitLemmas.{arrival_waits}
use Rattle.node.specs.Frames.{letter_of_arrival, sender_of}
use Rattle.node.specs.Serving.{ServesArrival}
use Rattle.node.specs.declared.node.Node.{Node}
use Rattle.node.proofs.LeftLemmas.{more_waits, serves_wait, ticks_wait}
use Rattle.node.proofs.ArrivalLemmas.{arrival_alone, arrival_more, arrival_then}
use Rattle.node.proofs.ServingLemmas.{serves_beside, unsent_one}
use Rattle.node.proofs.AgainLemmas.{on_ok_both}
use Rattle.node.proofs.FitComingLemmas.{command_fit}
use Rattle.node.proofs.FitDeskLemmas.{arrived_fit}
use Rattle.node.proofs.StayingLemmas.{unchanged}
use Rattle.node.proofs.TellLemmas.{idle}
use Rattle.node.specs.Peers.{IsChangedBy}
use Rattle.node.specs.Ticks.{DoesFirst, SendsAgain}
use Rattle.node.specs.declared.peers.Peers.{Peers}
use Rattle.node.proofs.node.Node.take_arrival.Goals as goal

pub returns-in-Left-clause-acts : goal.returns-in-Left-clause-acts
returns-in-Left-clause-acts c =
    let old = c.args.self.now.keeper in
    idle (sender_of old.ids.node c.args.arrival) (letter_of_arrival old c.args.arrival) old c.args.work.now

pub returns-in-Left-clause-serves : goal.returns-in-Left-clause-serves
returns-in-Left-clause-serves c =
    let old = c.args.self.now in
    let new : Node = record old { desk = record old.desk { clients = c.leave.new.self } } in
    let work = c.args.work.now in
    let client = c.in-Left.client in
    let gone : IsGone old.desk client new.desk =
    record { gone = c.leave.ensures.gone; others = c.leave.ensures.others; calls = refl; counts = refl } in
    subst (λ a. ServesArrival (Some a) old work new work) (sym c.in-Left.is)
    (arrival_alone (Some (came.Left client)) old new work work (Service.Leaves client ∷ []) refl tt
    (unsent_one old new work (Service.Leaves client) gone refl refl refl tt refl refl)
    (λ bytes fit. unchanged old.keeper work fit.keeper))

pub returns-in-Left-clause-waits : goal.returns-in-Left-clause-waits
returns-in-Left-clause-waits c =
    let old = c.args.self.now in
    let new : Node = record old { desk = record old.desk { clients = c.leave.new.self } } in
    let work = c.args.work.now in
    let client = c.in-Left.client in
    let gone : IsGone old.desk client new.desk =
    record { gone = c.leave.ensures.gone; others = c.leave.ensures.others; calls = refl; counts = refl } in
    serves_wait old new work work (Service.Leaves client ∷ [])
    (unsent_one old new work (Service.Leaves client) gone refl refl refl tt refl refl) (tt, tt)

pub returns-in_ok-push-in-Command-clause-serves : goal.returns-in_ok-push-in-Command-clause-serves
returns-in_ok-push-in-Command-clause-serves c =
    let old = c.args.self.now in
    let between : Node = record old { desk = record old.desk { clients = c.push.new.self } } in
    let new = c.go_on.new.self in
    let work = c.args.work.now in
    let client = c.in-Command.client in
    let frame = c.in-Command.frame in
    let arrived : IsArrived old.desk client frame between.desk = record {
      there = c.in_ok-push-in-Command.ensures.there;
      state = c.in_ok-push-in-Command.ensures.state;
      waiting = c.in_ok-push-in-Command.ensures.waiting;
      others = c.in_ok-push-in-Command.ensures.others;
      calls = refl;
      counts = refl;
    } in
    on_ok_weaker c.go_on.result
    (λ next. subst (λ a. ServesArrival (Some a) old work new c.go_on.new.work) (sym c.in-Command.is)
    (arrival_then (Some (came.Command client frame)) old between new work work c.go_on.new.work (Service.Arrives client frame)
    refl refl (unsent_one old between work (Service.Arrives client frame) arrived refl refl refl tt refl refl) next.more
    (λ free. next.first (Came frame) [] (arrived.state ∙ free.0) (arrived.waiting ∙ ap (λ xs. xs ++ (Came frame ∷ [])) free.1))
    (λ bytes fit. next.fit (arrived_fit old.desk client frame between.desk fit.desk (command_fit client frame bytes) arrived)
    fit.keeper)))
    c.go_on.ensures.serves

pub returns-in_ok-push-in-Command-clause-waits : goal.returns-in_ok-push-in-Command-clause-waits
returns-in_ok-push-in-Command-clause-waits c =
    let old = c.args.self.now in
    let between : Node = record old { desk = record old.desk { clients = c.push.new.self } } in
    let client = c.in-Command.client in
    let frame = c.in-Command.frame in
    let arrived : IsArrived old.desk client frame between.desk = record {
      there = c.in_ok-push-in-Command.ensures.there;
      state = c.in_ok-push-in-Command.ensures.state;
      waiting = c.in_ok-push-in-Command.ensures.waiting;
      others = c.in_ok-push-in-Command.ensures.others;
      calls = refl;
      counts = refl;
    } in
    on_ok_weaker c.go_on.result
    (λ goes waits. goes (arrival_waits old.desk between.desk client frame c.args.work.now.due.items arrived waits))
    c.go_on.ensures.waits

pub returns-in-Message-clause-serves : goal.returns-in-Message-clause-serves
returns-in-Message-clause-serves c =
    let old = c.args.self.now in
    let new = c.receive.new.self in
    let work = c.args.work.now in
    on_ok_both c.receive.result c.receive.ensures.serves c.receive.ensures.fit
    (λ more left. subst (λ a. ServesArrival (Some a) old work new c.receive.new.work) (sym c.in-Message.is)
    (arrival_more (Some (came.Message c.in-Message.sender c.in-Message.frame)) old new work c.receive.new.work refl more tt
    (λ bytes fit. left bytes.frame.short.1 bytes.bytes.1 fit.keeper)))

pub returns-in-Message-clause-waits : goal.returns-in-Message-clause-waits
returns-in-Message-clause-waits c =
    on_ok_weaker c.receive.result
    (λ more. more_waits c.args.self.now c.receive.new.self c.args.work.now c.receive.new.work more) c.receive.ensures.serves

pub returns-in-Tick-clause-serves : goal.returns-in-Tick-clause-serves
returns-in-Tick-clause-serves c =
    let old = c.args.self.now in
    let new = c.tick.new.self in
    let work = c.args.work.now in
    on_ok_weaker c.tick.result
    (λ serves. subst (λ a. ServesArrival (Some a) old work new c.tick.new.work) (sym c.in-Tick.is)
    (arrival_alone (Some (came.Tick c.in-Tick.heard)) old new work c.tick.new.work serves.services serves.ticks tt
    (serves_beside old new c.hear.new.self work c.tick.new.work serves.services serves.serves)
    (λ bytes fit. serves.fit fit.desk fit.keeper))) c.tick.ensures.serves

pub returns-in-Tick-clause-waits : goal.returns-in-Tick-clause-waits
returns-in-Tick-clause-waits c =
    let old : Node = record c.args.self.now { peers = c.hear.new.self } in
    on_ok_weaker c.tick.result
    (λ serves. ticks_wait (keys old.desk.calls) old c.tick.new.self c.args.work.now c.tick.new.work serves) c.tick.ensures.serves

pub returns-in-Left-clause-again : goal.returns-in-Left-clause-again
returns-in-Left-clause-again c =
    let old = c.args.self.now in
    let new : Node = record old { desk = record old.desk { clients = c.leave.new.self } } in
    let outputs = c.args.work.now.outputs.items in
    subst (λ a. DoesFirst (Some a) old outputs new outputs) (sym c.in-Left.is) tt

pub returns-in_ok-push-in-Command-clause-again : goal.returns-in_ok-push-in-Command-clause-again
returns-in_ok-push-in-Command-clause-again c =
    on_ok_weaker c.go_on.result
    (λ next. subst (λ a. DoesFirst (Some a) c.args.self.now c.args.work.now.outputs.items c.go_on.new.self
    c.go_on.new.work.outputs.items) (sym c.in-Command.is) tt) c.go_on.ensures.serves

pub returns-in-Message-clause-again : goal.returns-in-Message-clause-again
returns-in-Message-clause-again c =
    on_ok_weaker c.receive.result
    (λ hears. subst (λ a. DoesFirst (Some a) c.args.self.now c.args.work.now.outputs.items c.receive.new.self
    c.receive.new.work.outputs.items) (sym c.in-Message.is) hears) c.receive.ensures.hears

pub returns-in-Tick-clause-again : goal.returns-in-Tick-clause-again
returns-in-Tick-clause-again c =
    let old = c.args.self.now in
    let outputs = c.args.work.now.outputs.items in
    on_ok_weaker c.tick.result
    (λ again. subst (λ a. DoesFirst (Some a) old outputs c.tick.new.self c.tick.new.work.outputs.items) (sym c.in-Tick.is)
    (subst (λ (peers : Peers). SendsAgain (keys old.desk.calls) (record old { peers = peers }) outputs c.tick.new.self
    c.tick.new.work.outputs.items) c.hear.ensures again)) c.tick.ensures.again

pub returns-in-Tick-clause-peers : goal.returns-in-Tick-clause-peers
returns-in-Tick-clause-peers c =
    let old = c.args.self.now in
    on_ok_weaker c.tick.result
    (λ serves. subst (λ a. IsChangedBy (Some a) old.keeper old.peers c.tick.new.self.peers) (sym c.in-Tick.is)
    (c.tick.ensures.peers ∙ c.hear.ensures)) c.tick.ensures.serves

pub returns-in-Message-clause-peers : goal.returns-in-Message-clause-peers
returns-in-Message-clause-peers c =
    let old = c.args.self.now in
    on_ok_weaker c.receive.result
    (λ changed. subst (λ a. IsChangedBy (Some a) old.keeper old.peers c.receive.new.self.peers) (sym c.in-Message.is) changed)
    c.receive.ensures.peers

pub returns-in-Left-clause-peers : goal.returns-in-Left-clause-peers
returns-in-Left-clause-peers c =
    let old = c.args.self.now in
    subst (λ a. IsChangedBy (Some a) old.keeper old.peers old.peers) (sym c.in-Left.is) refl

pub returns-in_ok-push-in-Command-clause-peers : goal.returns-in_ok-push-in-Command-clause-peers
returns-in_ok-push-in-Command-clause-peers c =
    let old = c.args.self.now in
    on_ok_weaker c.go_on.result
    (λ next. subst (λ a. IsChangedBy (Some a) old.keeper old.peers c.go_on.new.self.peers) (sym c.in-Command.is)
    c.go_on.ensures.peers) c.go_on.ensures.serves
