use Rattle.std.proofs.Common.{refl}
use Rattle.record.specs.Steps.{Step}
use Rattle.cluster.specs.Cluster.{next_call_id, layout_numbered}
use Rattle.locked_steps.proofs.ReachableLemmas.{goes_on_both}
use Rattle.locked_steps.proofs.RoundLemmas.{kept_both}
use Rattle.locked_steps.proofs.moves.call_move.Goals as goal

pub returns-clause-count : goal.returns-clause-count
returns-clause-count c =
    kept_both c.call_move.result c.args.cluster.now c.call_move.new.self c.args.name.now
    (Step.CallMove (next_call_id c.args.cluster.now c.args.name.now) (layout_numbered c.args.cluster.now c.args.layout)) refl
    c.call_move.ensures.step c.call_move.ensures.unchanged

pub returns-clause-course : goal.returns-clause-course
returns-clause-course c =
    goes_on_both c.call_move.result c.args.cluster.now c.call_move.new.self c.args.name.now
    (Step.CallMove (next_call_id c.args.cluster.now c.args.name.now) (layout_numbered c.args.cluster.now c.args.layout))
    c.call_move.ensures.may c.call_move.ensures.step c.call_move.ensures.unchanged
