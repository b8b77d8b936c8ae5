use Rattle.std.proofs.Common.{◌≡◌, [], ◌++◌, ap, refl, subst, sym, false, true, None, Some, ◌∙◌}
use Rattle.std.proofs.lemmas.Result.{on_ok_weaker}
use Rattle.node_clients.specs.Calls.{aged_call, becomes_late, call_under}
use Rattle.node_clients.specs.Served.{IsOlder}
use Rattle.node_clients.specs.declared.desk.Desk.{Desk}
use Rattle.node.specs.declared.node.Node.{Node}
use Rattle.node.proofs.TellLemmas.{idle}
use Rattle.node.proofs.StayingLemmas.{unchanged}
use Rattle.node.proofs.TickLemmas.{aged_short, call_ages, call_is_late, none_late, some_late, some_move}
use Rattle.node_effects.specs.Work.{send_all}
use Rattle.node_keeper.specs.Sendings.{posted}
use Rattle.node.specs.Ticks.{aged_at, sent_at_age}
use Rattle.node.proofs.AgainLemmas.{kept_rest, late_kept, late_sent, none_kept, none_sent, nothing_out, on_ok_both, on_ok_three}
use Rattle.node.proofs.AgainLemmas.{timely_kept, timely_sent}
use Rattle.node.proofs.node.Node.tick_call.Goals as goal

pub returns-in_default-clause-acts : goal.returns-in_default-clause-acts
returns-in_default-clause-acts c = λ asker. idle asker [] c.args.self.now.keeper c.args.work.now

pub returns-in_default-clause-serves : goal.returns-in_default-clause-serves
returns-in_default-clause-serves c =
    let old = c.args.self.now in
    let new : Node = record old { desk = c.aged.new.self } in
    let call = call_under old.desk.calls c.args.id in
    let none : None ≡ aged_call c.ticks.result call = sym c.in_default.is ∙ c.in_ok-call.ensures.aged in
    let late : becomes_late old.keeper.file.ticks call ≡ false =
    subst (λ n. becomes_late n call ≡ false) c.ticks.ensures (none_late c.ticks.result call none) in
    let older : IsOlder old.desk c.args.id new.desk = record {
      older = c.in_ok-call.ensures.older;
      others = c.aged.ensures.others;
      clients = c.aged.ensures.clients;
      counts = c.aged.ensures.counts;
    } in
    call_ages c.args.id old new c.args.work.now c.args.work.now late older refl refl
    (record { told = refl; due = refl; notices = refl }) (λ desk. unchanged old.keeper c.args.work.now)

pub returns-then-call-clause-serves : goal.returns-then-call-clause-serves
returns-then-call-clause-serves c =
    let old = c.args.self.now in
    let between : Node = record old { desk = c.aged.new.self } in
    let call = call_under old.desk.calls c.args.id in
    let some : Some c.in-Some.call ≡ aged_call c.ticks.result call = sym c.in-Some.is ∙ c.in_ok-call.ensures.aged in
    let late : becomes_late old.keeper.file.ticks call ≡ true =
    subst (λ n. becomes_late n call ≡ true) c.ticks.ensures
    (some_late c.ticks.result call c.in-Some.call some ∙ c.if-call.true) in
    let older : IsOlder old.desk c.args.id between.desk = record {
      older = c.in_ok-call.ensures.older;
      others = c.aged.ensures.others;
      clients = c.aged.ensures.clients;
      counts = c.aged.ensures.counts;
    } in
    on_ok_both c.be_late.result c.be_late.ensures.late c.be_late.ensures.fit
    (λ serves left. call_is_late c.args.id c.in-Some.call.is_move old between c.be_late.new.self c.args.work.now c.be_late.new.work late
    (some_move c.ticks.result call c.in-Some.call some) older refl serves
    (λ desk. left (aged_short c.ticks.result old.desk c.args.id c.in-Some.call desk some)))

pub returns-clause-serves : goal.returns-clause-serves
returns-clause-serves c =
    let old = c.args.self.now in
    let new = c.ask_again.new.self in
    let call = call_under old.desk.calls c.args.id in
    let some : Some c.in-Some.call ≡ aged_call c.ticks.result call = sym c.in-Some.is ∙ c.in_ok-call.ensures.aged in
    let late : becomes_late old.keeper.file.ticks call ≡ false =
    subst (λ n. becomes_late n call ≡ false) c.ticks.ensures
    (some_late c.ticks.result call c.in-Some.call some ∙ c.if-call.false) in
    let older : IsOlder old.desk c.args.id c.aged.new.self = record {
      older = c.in_ok-call.ensures.older;
      others = c.aged.ensures.others;
      clients = c.aged.ensures.clients;
      counts = c.aged.ensures.counts;
    } in
    on_ok_three c.ask_again.result c.ask_again.ensures.seen c.ask_again.ensures.kept c.ask_again.ensures.fit
    (λ seen kept left.
    let rest = kept_rest c.in-Some.call.asks_again old.keeper new.keeper c.in-Some.call.name c.args.id kept in
    call_ages c.args.id old new c.args.work.now c.ask_again.new.work late
    (subst (λ (d : Desk). IsOlder old.desk c.args.id d) (sym c.ask_again.ensures.rest.desk) older) rest.0 rest.1 seen
    (λ desk. left (aged_short c.ticks.result old.desk c.args.id c.in-Some.call desk some)))

pub returns-in_default-clause-again : goal.returns-in_default-clause-again
returns-in_default-clause-again c =
    let old = c.args.self.now in
    let call = call_under old.desk.calls c.args.id in
    let none : aged_at old c.args.id ≡ None =
    subst (λ n. aged_call n call ≡ None) c.ticks.ensures (sym c.in_ok-call.ensures.aged ∙ c.in_default.is) in
    nothing_out old.keeper c.args.work.now.outputs.items (sent_at_age old.keeper c.args.id (aged_at old c.args.id))
    (none_sent old.keeper c.args.id (aged_at old c.args.id) none)

pub returns-in_default-clause-kept : goal.returns-in_default-clause-kept
returns-in_default-clause-kept c =
    let old = c.args.self.now in
    let call = call_under old.desk.calls c.args.id in
    let none : aged_at old c.args.id ≡ None =
    subst (λ n. aged_call n call ≡ None) c.ticks.ensures (sym c.in_ok-call.ensures.aged ∙ c.in_default.is) in
    none_kept old.keeper c.args.id (aged_at old c.args.id) none

pub returns-then-call-clause-again : goal.returns-then-call-clause-again
returns-then-call-clause-again c =
    let old = c.args.self.now in
    let keeper = old.keeper in
    let call = call_under old.desk.calls c.args.id in
    let some : aged_at old c.args.id ≡ Some c.in-Some.call =
    subst (λ n. aged_call n call ≡ Some c.in-Some.call) c.ticks.ensures (sym c.in_ok-call.ensures.aged ∙ c.in-Some.is) in
    on_ok_weaker c.be_late.result
    (λ out. out ∙ ap (λ xs. c.args.work.now.outputs.items ++ send_all (posted keeper.ids.node keeper.digest xs))
    (late_sent keeper c.args.id (aged_at old c.args.id) c.in-Some.call some c.if-call.true)) c.be_late.ensures.again

pub returns-then-call-clause-kept : goal.returns-then-call-clause-kept
returns-then-call-clause-kept c =
    let old = c.args.self.now in
    let call = call_under old.desk.calls c.args.id in
    let some : aged_at old c.args.id ≡ Some c.in-Some.call =
    subst (λ n. aged_call n call ≡ Some c.in-Some.call) c.ticks.ensures (sym c.in_ok-call.ensures.aged ∙ c.in-Some.is) in
    on_ok_weaker c.be_late.result
    (λ kept. late_kept old.keeper c.be_late.new.self.keeper c.args.id (aged_at old c.args.id) c.in-Some.call some c.if-call.true
    kept) c.be_late.ensures.kept

pub returns-clause-again : goal.returns-clause-again
returns-clause-again c =
    let old = c.args.self.now in
    let keeper = old.keeper in
    let call = call_under old.desk.calls c.args.id in
    let some : aged_at old c.args.id ≡ Some c.in-Some.call =
    subst (λ n. aged_call n call ≡ Some c.in-Some.call) c.ticks.ensures (sym c.in_ok-call.ensures.aged ∙ c.in-Some.is) in
    on_ok_weaker c.ask_again.result
    (λ out. out ∙ ap (λ xs. c.args.work.now.outputs.items ++ send_all (posted keeper.ids.node keeper.digest xs))
    (timely_sent keeper c.args.id (aged_at old c.args.id) c.in-Some.call some c.if-call.false)) c.ask_again.ensures.again

pub returns-clause-kept : goal.returns-clause-kept
returns-clause-kept c =
    let old = c.args.self.now in
    let call = call_under old.desk.calls c.args.id in
    let some : aged_at old c.args.id ≡ Some c.in-Some.call =
    subst (λ n. aged_call n call ≡ Some c.in-Some.call) c.ticks.ensures (sym c.in_ok-call.ensures.aged ∙ c.in-Some.is) in
    on_ok_weaker c.ask_again.result
    (λ kept. timely_kept old.keeper c.ask_again.new.self.keeper c.args.id (aged_at old c.args.id) c.in-Some.call some c.if-call.false
    kept) c.ask_again.ensures.kept

pub returns-clause-peers : goal.returns-clause-peers
returns-clause-peers c = c.ask_again.ensures.rest.peers
