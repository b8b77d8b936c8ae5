use Rattle.std.proofs.Common.{[], ◌∙◌, false, ap, refl, subst, sym}
use Rattle.std.proofs.lemmas.List.{append-nil}
use Rattle.std.proofs.lemmas.Result.{on_ok_weaker}
use Rattle.node.proofs.TellLemmas.{idle}
use Rattle.node.specs.Ticks.{IsKeptAs, PutsOut, again_if}
use Rattle.node.proofs.AgainLemmas.{nothing_out, on_ok_both}
use Rattle.node.proofs.StayingLemmas.{unchanged}
use Rattle.writable.proofs.AskingLemmas.{asked_again_fit}
use Rattle.node.proofs.node.Node.ask_again.Goals as goal

pub returns-then-not-call-clause-fit : goal.returns-then-not-call-clause-fit
returns-then-not-call-clause-fit c = λ short. unchanged c.args.self.now.keeper c.args.work.now

pub returns-clause-fit : goal.returns-clause-fit
returns-clause-fit c =
    let old = c.args.self.now.keeper in
    let call = c.args.call.now in
    on_ok_both c.ask_again.result c.ask_again.ensures.asked c.ask_again.ensures.sends
    (λ asked sends short fit.
    let stays = asked_again_fit old c.ask_again.new.self call.name c.args.id fit in
    record { keeper = stays.0 asked; own = stays.1 call.asks_all c.args.work.now c.ask_again.new.work short sends })

pub returns-then-not-call-clause-acts : goal.returns-then-not-call-clause-acts
returns-then-not-call-clause-acts c = λ asker. idle asker [] c.args.self.now.keeper c.args.work.now

pub returns-clause-seen : goal.returns-clause-seen
returns-clause-seen c =
    let work = c.args.work.now in
    on_ok_weaker c.ask_again.result
    (λ sends. record {
      told = sends.to_clients ∙ append-nil work.to_clients.items;
      due = sends.due ∙ append-nil work.due.items;
      notices = sends.notices ∙ append-nil work.notices.items;
    }) c.ask_again.ensures.sends

pub returns-then-not-call-clause-again : goal.returns-then-not-call-clause-again
returns-then-not-call-clause-again c =
    let keeper = c.args.self.now.keeper in
    let call = c.args.call.now in
    nothing_out keeper c.args.work.now.outputs.items (again_if call.asks_again call.asks_all keeper call.name c.args.id)
    (ap (λ b. again_if b call.asks_all keeper call.name c.args.id) c.if-not-call.true)

pub returns-clause-again : goal.returns-clause-again
returns-clause-again c =
    let keeper = c.args.self.now.keeper in
    let call = c.args.call.now in
    on_ok_weaker c.ask_again.result
    (λ sends. subst (λ b. PutsOut keeper (again_if b call.asks_all keeper call.name c.args.id) c.args.work.now.outputs.items
    c.ask_again.new.work.outputs.items) (sym c.if-not-call.false) sends.outputs) c.ask_again.ensures.sends

pub returns-then-not-call-clause-kept : goal.returns-then-not-call-clause-kept
returns-then-not-call-clause-kept c =
    let keeper = c.args.self.now.keeper in
    let call = c.args.call.now in
    subst (λ b. IsKeptAs false b keeper call.name c.args.id keeper) (sym c.if-not-call.true) refl

pub returns-clause-kept : goal.returns-clause-kept
returns-clause-kept c =
    let keeper = c.args.self.now.keeper in
    let call = c.args.call.now in
    on_ok_weaker c.ask_again.result
    (λ kept. subst (λ b. IsKeptAs false b keeper call.name c.args.id c.ask_again.new.self) (sym c.if-not-call.false) kept)
    c.ask_again.ensures.asked

pub returns-then-not-call-clause-rest : goal.returns-then-not-call-clause-rest
returns-then-not-call-clause-rest c = record { desk = refl; peers = refl; named = refl }

pub returns-clause-rest : goal.returns-clause-rest
returns-clause-rest c = record { desk = refl; peers = refl; named = refl }
