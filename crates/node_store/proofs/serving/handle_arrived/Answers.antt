use Rattle.std.proofs.Common.{rules, true, false}
use Rattle.std.specs.Io.Buffered.{reader_remaining}
use Rattle.std.proofs.lemmas.Result.{err_from_is_err_and}
use Rattle.node_store.proofs.ServingLemmas.{arrived_none, arrived_then, arrived_as, going, stopped}
use Rattle.node_store.proofs.StoppingLemmas.{stopped_so, stops_then}
use Rattle.node_store.proofs.serving.handle_arrived.Goals as goal

pub loop-init : goal.loop-init
loop-init g c =
    arrived_none g.M.Machine.handles g.M.Machine.notes c.args.machine.now
    (reader_remaining g.I.Read.remaining c.args.input.now) c.args.batch.now

pub returns-in_err-handle_next-clause-handles : goal.returns-in_err-handle_next-clause-handles
returns-in_err-handle_next-clause-handles g c =
    let p = err_from_is_err_and c.from_residual.result c.from_residual.ensures.1 in
    let known = reader_remaining g.I.Read.remaining in
    rw (p.1, p.2) (arrived_then g.M.Machine.handles g.M.Machine.notes
    c.args.machine.now c.loop.machine c.handle_next.new.machine
    (known c.args.input.now) (known c.loop.input) (known c.handle_next.new.input)
    c.args.batch.now c.loop.batch c.handle_next.new.batch (stopped c.in_err-handle_next.field-0.0)
    c.loop.invariant c.in_err-handle_next.ensures.handles)

pub returns-then-not-branch-clause-handles : goal.returns-then-not-branch-clause-handles
returns-then-not-branch-clause-handles g c =
    let known = reader_remaining g.I.Read.remaining in
    arrived_then g.M.Machine.handles g.M.Machine.notes
    c.args.machine.now c.loop.machine c.handle_next.new.machine
    (known c.args.input.now) (known c.loop.input) (known c.handle_next.new.input)
    c.args.batch.now c.loop.batch c.handle_next.new.batch (going false) c.loop.invariant
    (arrived_as g.M.Machine.handles g.M.Machine.notes c.loop.machine c.handle_next.new.machine (known c.loop.input)
    (known c.handle_next.new.input) c.loop.batch c.handle_next.new.batch c.in_ok-handle_next.field-0 false (search rules)
    c.in_ok-handle_next.ensures.handles)

pub loop-preserved : goal.loop-preserved
loop-preserved g c =
    let known = reader_remaining g.I.Read.remaining in
    arrived_then g.M.Machine.handles g.M.Machine.notes
    c.args.machine.now c.loop.machine c.handle_next.new.machine
    (known c.args.input.now) (known c.loop.input) (known c.handle_next.new.input)
    c.args.batch.now c.loop.batch c.handle_next.new.batch (going true) c.loop.invariant
    (arrived_as g.M.Machine.handles g.M.Machine.notes c.loop.machine c.handle_next.new.machine (known c.loop.input)
    (known c.handle_next.new.input) c.loop.batch c.handle_next.new.batch c.in_ok-handle_next.field-0 true (search rules)
    c.in_ok-handle_next.ensures.handles)

pub returns-then-is_due-clause-handles : goal.returns-then-is_due-clause-handles
returns-then-is_due-clause-handles g c =
    let known = reader_remaining g.I.Read.remaining in
    arrived_then g.M.Machine.handles g.M.Machine.notes
    c.args.machine.now c.loop.machine c.handle_next.new.machine
    (known c.args.input.now) (known c.loop.input) (known c.handle_next.new.input)
    c.args.batch.now c.loop.batch c.handle_next.new.batch (going true) c.loop.invariant
    (arrived_as g.M.Machine.handles g.M.Machine.notes c.loop.machine c.handle_next.new.machine (known c.loop.input)
    (known c.handle_next.new.input) c.loop.batch c.handle_next.new.batch c.in_ok-handle_next.field-0 true (search rules)
    c.in_ok-handle_next.ensures.handles)

pub returns-in_err-handle_next-clause-stopped : goal.returns-in_err-handle_next-clause-stopped
returns-in_err-handle_next-clause-stopped g c =
    let known = reader_remaining g.I.Read.remaining in
    let error = c.in_err-handle_next.field-0.0 in
    let before = c.loop.invariant in
    stopped_so g.M.Machine.handles g.M.Machine.notes g.M.Machine.fails c.args.machine.now (known c.args.input.now)
    c.from_residual.result error c.from_residual.ensures.1
    (stops_then g.M.Machine.handles g.M.Machine.notes g.M.Machine.fails c.args.machine.now c.loop.machine (known c.args.input.now)
    (known c.loop.input) before.0 error before.1 before.2 c.in_err-handle_next.ensures.stopped)
