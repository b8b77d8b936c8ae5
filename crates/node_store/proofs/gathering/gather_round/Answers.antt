use Rattle.std.proofs.Common.{Some}
use Rattle.node_store.specs.Serving.{StopsBehind}
use Rattle.node_store.proofs.GatheringLemmas.{err_so, gathered, stops_told}
use Rattle.node_store.proofs.StoppingLemmas.{stopped_so, stops_noted}
use Rattle.node_store.proofs.gathering.gather_round.Goals as goal

pub returns-clause-handles : goal.returns-clause-handles
returns-clause-handles g c =
    gathered g.M.Machine.handles g.M.Machine.notes c.args.end.chain.state c.new-batch.result.chain.state c.args.machine.now
    c.begin_round-report.new.self c.take_frames.new.machine c.args.end.length c.args.input.now c.take_frames.new.left.now
    c.new-batch.result c.take_frames.new.batch c.begin_round-report.ensures.noted c.new-batch.ensures.chain
    c.new-batch.ensures.empty c.in_ok-take_frames.ensures.handles

pub returns-in_err-take_frames-clause-lost : goal.returns-in_err-take_frames-clause-lost
returns-in_err-take_frames-clause-lost g c =
    let error = c.in_err-take_frames.field-0.0 in
    err_so (StopsBehind g.M.Machine.handles g.M.Machine.notes c.args.machine.now (Some c.args.input.now))
    c.from_residual.result error c.from_residual.ensures.1
    (stops_told g.M.Machine.handles g.M.Machine.notes c.args.machine.now c.begin_round-report.new.self c.args.end.length
    c.args.input.now error c.begin_round-report.ensures.noted c.in_err-take_frames.ensures.lost)

pub returns-in_err-take_frames-clause-stopped : goal.returns-in_err-take_frames-clause-stopped
returns-in_err-take_frames-clause-stopped g c =
    let error = c.in_err-take_frames.field-0.0 in
    stopped_so g.M.Machine.handles g.M.Machine.notes g.M.Machine.fails c.args.machine.now (Some c.args.input.now)
    c.from_residual.result error c.from_residual.ensures.1
    (stops_noted g.M.Machine.handles g.M.Machine.notes g.M.Machine.fails c.args.machine.now c.begin_round-report.new.self
    c.args.end.length (Some c.args.input.now) error c.begin_round-report.ensures.noted
    c.in_err-take_frames.ensures.stopped)
