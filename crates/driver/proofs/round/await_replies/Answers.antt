use Rattle.std.proofs.Common.{IfOk, IfErr, sym, subst}
use Rattle.driver.proofs.LimitRefusalLemmas.{err_of}
use Rattle.driver.proofs.WantLemmas.{replies_no_answer}
use Rattle.driver.specs.Driver.{IsTurn, IsRefused}
use Rattle.driver.specs.Rounds.{MakesRound}
use Rattle.driver.proofs.round.await_replies.Goals as goal

pub ask_again-requires-clause-wanted : goal.ask_again-requires-clause-wanted
ask_again-requires-clause-wanted g c = c.requires.wanted

pub returns-then-asks_again-clause-round : goal.returns-then-asks_again-clause-round
returns-then-asks_again-clause-round g c =
    subst (λ again. IfOk c.ask_again.result (λ r. MakesRound g.C.Chooser.chooses c.args.name.now c.args.call again c.args.cluster.now
    c.args.chooser.now c.ask_again.new.cluster c.args.chooser.now r)) (sym c.if-asks_again.true) c.ask_again.ensures.round

pub returns-then-asks_again-clause-refused : goal.returns-then-asks_again-clause-refused
returns-then-asks_again-clause-refused g c =
    subst (λ again. IfErr c.ask_again.result (λ e. IsRefused g.C.Chooser.chooses c.args.name.now c.args.call c.args.cluster.now again
    c.args.chooser.now c.args.chooser.now e)) (sym c.if-asks_again.true) c.ask_again.ensures.refused

pub handle_chosen-requires-clause-wanted : goal.handle_chosen-requires-clause-wanted
handle_chosen-requires-clause-wanted g c = c.requires.wanted

pub returns-clause-round : goal.returns-clause-round
returns-clause-round g c = (
  subst (λ again. IsTurn g.C.Chooser.chooses c.args.name.now c.args.call again c.args.cluster.now c.args.chooser.now
      c.handle_chosen.new.cluster c.handle_chosen.new.chooser) (sym c.if-asks_again.false) c.in_ok-handle_chosen.ensures.turn,
  replies_no_answer _ c.requires.wanted,
)

pub returns-in_err-handle_chosen-clause-refused : goal.returns-in_err-handle_chosen-clause-refused
returns-in_err-handle_chosen-clause-refused g c =
    err_of _ _ _ c.from_residual.ensures.1
    (subst (λ again. IsRefused g.C.Chooser.chooses c.args.name.now c.args.call c.args.cluster.now again c.args.chooser.now
    c.handle_chosen.new.chooser c.in_err-handle_chosen.field-0.0) (sym c.if-asks_again.false)
    c.in_err-handle_chosen.ensures.refused)
