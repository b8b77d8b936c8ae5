use Rattle.std.proofs.Common.{refl, sym, subst, inr, arith}
use Rattle.cluster.specs.Places.{IsObjectAt}
use Rattle.driver.specs.Driver.{Drives, IsUnfinished}
use Rattle.driver.proofs.LimitRefusalLemmas.{err_of}
use Rattle.driver.proofs.ObjectIndexLemmas.{index_stays, missing_call}
use Rattle.driver.proofs.WholeCallLemmas.{turned, stopped, finished, unfinished}
use Rattle.driver.proofs.driver.finish.Goals as goal

pub loop-turn-preserved-then-branch : goal.loop-turn-preserved-then-branch
loop-turn-preserved-then-branch g c =
    let went = c.in_ok-make_step.ensures.turn c.if-branch.true in
    record {
      drives = turned g.C.Chooser.chooses c.args.name.now c.args.call c.args.resumed c.args.turns c.args.cluster.now c.args.chooser.now
          c.loop-turn.turn
          c.loop-turn.cluster c.loop-turn.chooser c.make_step.new.cluster c.make_step.new.chooser c.loop-turn.invariant.drives
          c.asks_again-again.result
          c.asks_again-again.ensures went.0;
      placed = index_stays c.loop-turn.cluster c.make_step.new.cluster c.args.name.now c.in_ok-object.object went.0.step went.0.made
          c.loop-turn.invariant.placed;
      open_call = inr went.1;
    }

pub loop-turn-preserved : goal.loop-turn-preserved
loop-turn-preserved g c =
    let went = rw c.in_default.is at c.in_ok-receipt.ensures.turn in
    let same = c.in_ok-make_step.ensures.same c.if-branch.false in
    let drives = subst (λ held. Drives g.C.Chooser.chooses c.args.name.now c.args.call c.args.resumed c.loop-turn.turn
    c.args.cluster.now c.args.chooser.now c.make_step.new.cluster held) (sym same.1)
    (subst (λ middle. Drives g.C.Chooser.chooses c.args.name.now c.args.call c.args.resumed c.loop-turn.turn
    c.args.cluster.now c.args.chooser.now middle c.loop-turn.chooser) (sym same.0) c.loop-turn.invariant.drives) in
    record {
      drives = turned g.C.Chooser.chooses c.args.name.now c.args.call c.args.resumed c.args.turns c.args.cluster.now c.args.chooser.now
          c.loop-turn.turn
          c.make_step.new.cluster c.make_step.new.chooser c.make_turn.new.cluster c.make_turn.new.chooser drives
          c.asks_again-again.result
          c.asks_again-again.ensures went.0;
      placed = index_stays c.make_step.new.cluster c.make_turn.new.cluster c.args.name.now c.in_ok-object.object went.0.step went.0.made
          (subst (λ m. IsObjectAt m c.args.name.now c.in_ok-object.object) (sym same.0) c.loop-turn.invariant.placed);
      open_call = inr went.1;
    }

pub returns-in_err-object-clause-refused : goal.returns-in_err-object-clause-refused
returns-in_err-object-clause-refused g c =
    err_of _ _ _ c.from_residual.ensures.1
    (missing_call g.C.Chooser.chooses c.args.name.now c.args.call c.args.cluster.now c.args.chooser.now c.in_err-object.field-0.0
    c.in_err-object.ensures.cause c.args.resumed c.args.turns)

pub returns-in_err-make_step-clause-refused : goal.returns-in_err-make_step-clause-refused
returns-in_err-make_step-clause-refused g c =
    err_of _ _ _ c.from_residual-in_err-make_step.ensures.1
    (stopped g.C.Chooser.chooses c.args.name.now c.args.call c.args.resumed c.args.turns c.args.cluster.now c.args.chooser.now
    c.loop-turn.turn c.loop-turn.cluster c.loop-turn.cluster c.make_step.new.cluster c.loop-turn.chooser c.loop-turn.chooser
    c.make_step.new.chooser c.asks_again-again.result refl refl c.asks_again-again.ensures (omega arith) c.loop-turn.invariant.drives
    c.in_err-make_step.field-0.0 c.loop-turn.invariant.open_call c.in_err-make_step.ensures.unchanged c.in_err-make_step.ensures.refused)

pub returns-in_err-receipt-clause-refused : goal.returns-in_err-receipt-clause-refused
returns-in_err-receipt-clause-refused g c =
    let same = c.in_ok-make_step.ensures.same c.if-branch.false in
    err_of _ _
    (IsUnfinished g.C.Chooser.chooses c.args.name.now c.args.call c.args.resumed c.args.turns c.args.cluster.now c.args.chooser.now
    c.make_turn.new.cluster c.make_turn.new.chooser) c.from_residual-in_err-receipt.ensures.1
    (stopped g.C.Chooser.chooses c.args.name.now c.args.call c.args.resumed c.args.turns c.args.cluster.now c.args.chooser.now
    c.loop-turn.turn c.loop-turn.cluster c.make_step.new.cluster c.make_turn.new.cluster c.loop-turn.chooser c.make_step.new.chooser
    c.make_turn.new.chooser c.asks_again-again.result same.0 same.1 c.asks_again-again.ensures (omega arith)
    c.loop-turn.invariant.drives c.in_err-receipt.field-0.0 c.loop-turn.invariant.open_call c.in_err-receipt.ensures.unchanged
    c.in_err-receipt.ensures.refused)

pub returns-in-Some-clause-finished : goal.returns-in-Some-clause-finished
returns-in-Some-clause-finished g c =
    let same = c.in_ok-make_step.ensures.same c.if-branch.false in
    finished g.C.Chooser.chooses c.args.name.now c.args.call c.args.resumed c.args.turns c.args.cluster.now c.args.chooser.now
    c.loop-turn.turn c.loop-turn.cluster c.make_step.new.cluster c.make_turn.new.cluster c.loop-turn.chooser c.make_step.new.chooser
    c.make_turn.new.chooser c.asks_again-again.result same.0 same.1 c.asks_again-again.ensures (omega arith)
    c.loop-turn.invariant.drives c.in-Some.receipt (rw c.in-Some.is at c.in_ok-receipt.ensures.turn)

pub returns-in-Some-clause-refused : goal.returns-in-Some-clause-refused
returns-in-Some-clause-refused g c = tt

pub returns-clause-refused : goal.returns-clause-refused
returns-clause-refused g c =
    unfinished g.C.Chooser.chooses c.args.name.now c.args.call c.args.resumed c.args.turns c.args.cluster.now c.args.chooser.now
    c.loop-turn.turn c.loop-turn.cluster c.loop-turn.chooser c.why_unfinished.result (omega arith)
    c.loop-turn.invariant.drives c.loop-turn.invariant.open_call c.why_unfinished.ensures
