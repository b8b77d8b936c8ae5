use Rattle.std.proofs.Common.{Some, true, length, le_refl, le_trans}
use Rattle.node_store.specs.Serving.{StopsBehind}
use Rattle.node_store.proofs.GatheringLemmas.{err_so, more_lost}
use Rattle.node_store.proofs.ServingLemmas.{arrived_none, arrived_then, going}
use Rattle.node_store.proofs.StoppingLemmas.{stopped_so, stops_then}
use Rattle.node_store.proofs.gathering.take_more.Goals as goal

pub loop-init : goal.loop-init
loop-init g c = (
  arrived_none g.M.Machine.handles g.M.Machine.notes c.args.machine.now (Some c.args.left.now.now) c.args.batch.now,
  le_refl (length c.args.left.now.now),
)

pub loop-preserved : goal.loop-preserved
loop-preserved g c = (
  arrived_then g.M.Machine.handles g.M.Machine.notes c.args.machine.now c.loop.machine c.take_frame.new.machine
      (Some c.args.left.now.now) (Some c.loop.left.now) (Some c.take_frame.new.left.now) c.args.batch.now c.loop.batch
      c.take_frame.new.batch (going true) c.loop.invariant.0 c.in_ok-take_frame.ensures.handles,
  le_trans c.in_ok-take_frame.ensures.no_more c.loop.invariant.1,
)

pub returns-then-not-branch-clause-handles : goal.returns-then-not-branch-clause-handles
returns-then-not-branch-clause-handles g c =
    arrived_then g.M.Machine.handles g.M.Machine.notes c.args.machine.now c.loop.machine c.take_frame.new.machine
    (Some c.args.left.now.now) (Some c.loop.left.now) (Some c.take_frame.new.left.now) c.args.batch.now c.loop.batch
    c.take_frame.new.batch (going true) c.loop.invariant.0 c.in_ok-take_frame.ensures.handles

pub returns-then-not-branch-clause-no_more : goal.returns-then-not-branch-clause-no_more
returns-then-not-branch-clause-no_more g c = le_trans c.in_ok-take_frame.ensures.no_more c.loop.invariant.1

pub returns-then-is_full-clause-handles : goal.returns-then-is_full-clause-handles
returns-then-is_full-clause-handles g c = c.loop.invariant.0

pub returns-then-is_full-clause-no_more : goal.returns-then-is_full-clause-no_more
returns-then-is_full-clause-no_more g c = c.loop.invariant.1

pub returns-clause-handles : goal.returns-clause-handles
returns-clause-handles g c = c.loop.invariant.0

pub returns-clause-no_more : goal.returns-clause-no_more
returns-clause-no_more g c = c.loop.invariant.1

pub returns-in_err-take_frame-clause-lost : goal.returns-in_err-take_frame-clause-lost
returns-in_err-take_frame-clause-lost g c =
    let error = c.in_err-take_frame.field-0.0 in
    err_so (StopsBehind g.M.Machine.handles g.M.Machine.notes c.args.machine.now (Some c.args.left.now.now))
    c.from_residual.result error c.from_residual.ensures.1
    (more_lost g.M.Machine.handles g.M.Machine.notes c.args.machine.now c.loop.machine c.args.left.now.now c.loop.left.now
    c.args.batch.now c.loop.batch c.loop.invariant.0 error c.in_err-take_frame.ensures.lost)

pub returns-in_err-take_frame-clause-stopped : goal.returns-in_err-take_frame-clause-stopped
returns-in_err-take_frame-clause-stopped g c =
    let error = c.in_err-take_frame.field-0.0 in
    let before = c.loop.invariant.0 in
    stopped_so g.M.Machine.handles g.M.Machine.notes g.M.Machine.fails c.args.machine.now (Some c.args.left.now.now)
    c.from_residual.result error c.from_residual.ensures.1
    (stops_then g.M.Machine.handles g.M.Machine.notes g.M.Machine.fails c.args.machine.now c.loop.machine
    (Some c.args.left.now.now) (Some c.loop.left.now) before.0 error before.1 before.2
    c.in_err-take_frame.ensures.stopped)
