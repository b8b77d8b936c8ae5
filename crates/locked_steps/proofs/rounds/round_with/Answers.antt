use Rattle.std.proofs.Common.{rules, pred, refl}
use Rattle.record.specs.Steps.{Step}
use Rattle.locked_steps.proofs.ReachableLemmas.{goes_on_round_both, goes_on_step}
use Rattle.locked_steps.proofs.RoundLemmas.{counted_round_both, kept_step}
use Rattle.locked_steps.proofs.rounds.round_with.Goals as goal

pub returns-in-Empty-clause-count : goal.returns-in-Empty-clause-count
returns-in-Empty-clause-count g c =
    counted_round_both g.C.Chooser.chooses c.args.name.now c.args.call c.args.asks_again c.args.cluster.now c.args.chooser.now
    c.make_round_at.new.cluster c.make_round_at.new.chooser
    c.make_round_at.result c.make_round_at.ensures.round c.make_round_at.ensures.unchanged

pub returns-in-Ok-clause-count : goal.returns-in-Ok-clause-count
returns-in-Ok-clause-count g c =
    kept_step c.args.cluster.now c.supply_at.new.self c.args.name.now (Step.Supply (pred c.args.call)) refl c.in-Ok.ensures.step

pub returns-in_ok-settle_at-in-Decoded-clause-count : goal.returns-in_ok-settle_at-in-Decoded-clause-count
returns-in_ok-settle_at-in-Decoded-clause-count g c =
    kept_step c.args.cluster.now c.settle_at.new.self c.args.name.now (Step.Settle (pred c.args.call) c.in-Decoded.decoded.value) refl
    c.in_ok-settle_at-in-Decoded.ensures.step

pub returns-in-Empty-clause-course : goal.returns-in-Empty-clause-course
returns-in-Empty-clause-course g c =
    goes_on_round_both g.C.Chooser.chooses c.args.name.now c.args.call c.args.asks_again c.args.cluster.now c.args.chooser.now
    c.make_round_at.new.cluster c.make_round_at.new.chooser
    c.make_round_at.result c.make_round_at.ensures.round c.make_round_at.ensures.unchanged

pub returns-in-Ok-clause-course : goal.returns-in-Ok-clause-course
returns-in-Ok-clause-course g c =
    goes_on_step c.args.cluster.now c.supply_at.new.self c.args.name.now (Step.Supply (pred c.args.call)) c.in-Ok.ensures.may
    c.in-Ok.ensures.step

pub returns-in_ok-settle_at-in-Decoded-clause-course : goal.returns-in_ok-settle_at-in-Decoded-clause-course
returns-in_ok-settle_at-in-Decoded-clause-course g c =
    goes_on_step c.args.cluster.now c.settle_at.new.self c.args.name.now (Step.Settle (pred c.args.call) c.in-Decoded.decoded.value)
    c.in_ok-settle_at-in-Decoded.ensures.may c.in_ok-settle_at-in-Decoded.ensures.step

pub returns-in-Err-NotNow-clause-refused : goal.returns-in-Err-NotNow-clause-refused
returns-in-Err-NotNow-clause-refused g c = search rules
